use Rattle.trace_report.proofs.Names.{ap, ◌∙◌, stamp_cmp-total, stamp_cmp-exact, insert-entries_of}
use Rattle.std.specs.FinMap as finite
use Rattle.trace_report.proofs.firsts.Firsts.put.Goals as goal

pub returns : goal.returns
returns c = insert-entries_of stamp_cmp-total stamp_cmp-exact c.self.inside.entries.entries c.insert.new.self.entries c.args.stamp c.args.first c.in_ok-insert.ensures.updates.0 ∙ ap (λ m. finite.insert m c.args.stamp c.args.first) c.self.view_is
