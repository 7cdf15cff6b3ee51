use Rattle.std.proofs.Common.{subst}
use Rattle.pseudo_time.specs.Lists.{Has}
use Rattle.world_core.specs.Deeds.{log_of}
use Rattle.log_replay.proofs.decisions.Rulings.read.Goals as goal

pub returns-in_ok-decide-in-Decide-clause-based : goal.returns-in_ok-decide-in-Decide-clause-based
returns-in_ok-decide-in-Decide-clause-based c = λ k inside there based. c.in_ok-decide-in-Decide.ensures.based k c.in-Decide.decision inside (subst (λ f. Has f (log_of k c.args.repository)) c.in-Decide.is there) c.is_commit.ensures based
