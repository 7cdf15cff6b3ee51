use Rattle.log_replay.proofs.CommitLemmas.{said-none}
use Rattle.log_replay.proofs.commits.said_in.Goals as goal

pub loop-effect-init : goal.loop-effect-init
loop-effect-init c = said-none c.new-said.result c.new-said.ensures
