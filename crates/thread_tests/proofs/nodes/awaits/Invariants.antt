use Rattle.std.proofs.Common.{false}
use Rattle.pseudo_time.specs.Nodes.{repository}
use Rattle.thread_tests.specs.Passes.{IsAt}
use Rattle.thread_tests.proofs.nodes.awaits.Given as goal

-- the repository has taken nothing yet
abbrev pub invariant-loop : goal.invariant-loop
invariant-loop g l = IsAt l.wire.lock (repository 1) false false l.pass
