use Rattle.folder_look.proofs.Names.{sym, ap, ◌∙◌, time_cmp-exact}
use Rattle.pseudo_time.proofs.OrderLemmas.{time_cmp-total}
use Rattle.std.specs.FinMap as finite
use Rattle.object_history.proofs.MapLemmas.{get-entries_of}
use Rattle.folder_look.proofs.touches.Touches.get.Goals as goal

pub returns : goal.returns
returns c = c.get.ensures.value ∙ sym (get-entries_of time_cmp-total time_cmp-exact c.self.inside.entries.entries c.args.time) ∙ ap (λ m. finite.get m c.args.time) c.self.view_is
