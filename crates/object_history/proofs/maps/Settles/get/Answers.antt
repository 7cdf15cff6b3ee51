use Rattle.object_history.proofs.Names.{sym, ap, ◌∙◌, stamp_cmp-total, stamp_cmp-exact}
use Rattle.std.specs.FinMap as finite
use Rattle.object_history.proofs.MapLemmas.{get-entries_of}
use Rattle.object_history.proofs.maps.Settles.get.Goals as goal

pub returns : goal.returns
returns c = c.copied.ensures ∙ c.get.ensures.value ∙ sym (get-entries_of stamp_cmp-total stamp_cmp-exact c.self.inside.entries.entries c.args.stamp) ∙ ap (λ m. finite.get m c.args.stamp) c.self.view_is
