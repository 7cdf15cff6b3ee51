use Rattle.std.proofs.Common.{true, false}
use Rattle.pseudo_time.specs.Nodes.{broker}
use Rattle.thread_tests.specs.Passes.{IsAt}
use Rattle.thread_tests.proofs.nodes.tests.Given as goal

-- the broker has gone, and waits
abbrev pub invariant-loop : goal.invariant-loop
invariant-loop g l = IsAt l.wire.lock (broker 1) true false l.pass
