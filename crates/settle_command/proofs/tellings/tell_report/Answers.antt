use Rattle.run_command.proofs.TextLemmas.{moments-told}
use Rattle.settle_command.proofs.tellings.tell_report.Goals as goal

pub settle_report-requires-clause-moments : goal.settle_report-requires-clause-moments
settle_report-requires-clause-moments g c = moments-told c.args.trace.now.entries c.requires.ranges.moments
