use Rattle.folder_look.proofs.Names.{ap, ◌∙◌, time_cmp-exact}
use Rattle.pseudo_time.proofs.OrderLemmas.{time_cmp-total}
use Rattle.std.specs.FinMap as finite
use Rattle.object_history.proofs.MapLemmas.{insert-entries_of}
use Rattle.folder_look.proofs.touches.Touches.put.Goals as goal

pub returns : goal.returns
returns c = insert-entries_of time_cmp-total time_cmp-exact c.self.inside.entries.entries c.insert.new.self.entries c.args.time c.args.touch c.in_ok-insert.ensures.updates.0 ∙ ap (λ m. finite.insert m c.args.time c.args.touch) c.self.view_is
