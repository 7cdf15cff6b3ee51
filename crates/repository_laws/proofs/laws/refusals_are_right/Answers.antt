use Rattle.repository_core.specs.Turns.{hand_at}
use Rattle.repository_laws.proofs.AnyTurns.{take-fine, on-learn-fine, hear-fine, begun-fine}
use Rattle.repository_laws.proofs.laws.refusals_are_right.Goals as goal

pub returns-clause-taking : goal.returns-clause-taking
returns-clause-taking c ever r log mind from m held sent = take-fine ever r log (hand_at r log mind) from m sent (begun-fine ever r log mind held)

pub returns-clause-learning : goal.returns-clause-learning
returns-clause-learning c ever r log mind s b held = on-learn-fine ever r log (hand_at r log mind) s b (begun-fine ever r log mind held)

pub returns-clause-hearing : goal.returns-clause-hearing
returns-clause-hearing c ever r log mind m held = hear-fine ever r log (hand_at r log mind) m (begun-fine ever r log mind held)
