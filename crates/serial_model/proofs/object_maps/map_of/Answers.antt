use Rattle.serial_model.proofs.Names.{ap, ◌∙◌, onto}
use Rattle.serial_model.proofs.MapLemmas.{onto-empty}
use Rattle.serial_model.proofs.object_maps.map_of.Goals as goal

pub returns : goal.returns
returns c = c.in_ok-map.ensures ∙ ap (λ z. onto z c.args.entries.items) c.new.ensures ∙ onto-empty c.args.entries.items
