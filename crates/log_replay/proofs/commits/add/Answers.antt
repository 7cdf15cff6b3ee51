use Rattle.log_replay.proofs.CommitLemmas.{nothing-said, said-same}
use Rattle.log_replay.proofs.commits.add.Goals as goal

pub returns-in_default : goal.returns-in_default
returns-in_default c = λ log h. said-same c.args.said.now log c.args.effect.now (nothing-said c.args.effect.now c.in_default.not-Decide c.in_default.not-Learn) h
