use Rattle.object_history.proofs.Names.{sym, ap, ◌∙◌, object_cmp-total, object_cmp-exact}
use Rattle.std.specs.FinMap as finite
use Rattle.object_history.proofs.MapLemmas.{get-entries_of}
use Rattle.object_history.proofs.maps.Tracks.get.Goals as goal

pub returns : goal.returns
returns c = c.get.ensures.value ∙ sym (get-entries_of object_cmp-total object_cmp-exact c.self.inside.entries.entries c.args.object) ∙ ap (λ m. finite.get m c.args.object) c.self.view_is
