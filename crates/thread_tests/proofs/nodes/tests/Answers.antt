use Rattle.thread_tests.proofs.PassLemmas.{tested-at}
use Rattle.thread_tests.proofs.nodes.tests.Goals as goal

-- a test leaves the broker where it was
pub loop-preserved : goal.loop-preserved
loop-preserved g c = tested-at _ _ _ _ c.decided.ensures.pass _ _ _ _ c.loop.invariant c.decided.ensures.tested

pub returns-then-eq : goal.returns-then-eq
returns-then-eq g c = tested-at _ _ _ _ c.decided.ensures.pass _ _ _ _ c.loop.invariant c.decided.ensures.tested
