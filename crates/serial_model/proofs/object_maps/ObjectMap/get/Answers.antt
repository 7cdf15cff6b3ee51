use Rattle.std.proofs.Common.{sym, ap, ◌∙◌}
use Rattle.std.specs.FinMap as finite
use Rattle.serial_model.proofs.MapLemmas.{get-entries_of}
use Rattle.serial_model.proofs.object_maps.ObjectMap.get.Goals as goal

pub returns : goal.returns
returns c = c.get.ensures.value ∙ sym (get-entries_of c.self.inside.entries.entries c.args.object) ∙ ap (λ m. finite.get m c.args.object) c.self.view_is
