use Rattle.run_rounds.proofs.CloseLemmas.{wires-pushed}
use Rattle.run_rounds.proofs.runs.stopped.Goals as goal

pub closed_run-requires-clause-passes : goal.closed_run-requires-clause-passes
closed_run-requires-clause-passes g c = wires-pushed c.args.wire.lock c.push_reserved.new.self.items c.args.passes.items c.args.conductor c.push_reserved.ensures.items c.requires.passes.0 c.requires.passes.1
