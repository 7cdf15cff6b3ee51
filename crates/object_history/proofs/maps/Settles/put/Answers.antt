use Rattle.object_history.proofs.Names.{ap, ◌∙◌, stamp_cmp-total, stamp_cmp-exact}
use Rattle.std.specs.FinMap as finite
use Rattle.object_history.proofs.MapLemmas.{insert-entries_of}
use Rattle.object_history.proofs.maps.Settles.put.Goals as goal

pub returns-clause-ok : goal.returns-clause-ok
returns-clause-ok c = insert-entries_of stamp_cmp-total stamp_cmp-exact c.self.inside.entries.entries c.insert.new.self.entries c.args.stamp c.args.committed c.in_ok-insert.ensures.updates.0 ∙ ap (λ m. finite.insert m c.args.stamp c.args.committed) c.self.view_is
