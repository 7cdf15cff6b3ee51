use Rattle.run_command.proofs.TextLemmas.{moments-told}
use Rattle.run_command.proofs.reports.text_of.Goals as goal

pub report-requires-clause-moments : goal.report-requires-clause-moments
report-requires-clause-moments c = moments-told c.args.trace.now.entries c.requires.ranges.moments

pub summary-requires-clause-moments : goal.summary-requires-clause-moments
summary-requires-clause-moments c = moments-told c.args.trace.now.entries c.requires.ranges.moments
