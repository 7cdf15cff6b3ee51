use Rattle.world_core.proofs.SameWorlds.{walk-same, legal-same}
use Rattle.world_core.proofs.plan_laws.readings_walk_alike.Goals as goal

pub returns-clause-walks : goal.returns-clause-walks
returns-clause-walks c = λ s s' plan t es h h'. walk-same s s' plan h h' t es

pub returns-clause-legal : goal.returns-clause-legal
returns-clause-legal c = λ s s' plan asked t h h'. legal-same s s' plan h h' asked t
