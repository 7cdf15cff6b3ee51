use Rattle.world_core.specs.Pasts.{alike}
use Rattle.kill_law.specs.Places.{life_there}
use Rattle.kill_law.proofs.PlaceLemmas.{came-there, were-left-there, keeps-there}
use Rattle.kill_law.proofs.laws.place_has_past.Goals as goal

pub returns-clause-past : goal.returns-clause-past
returns-clause-past c plan asked t whole legal front rest logs after here past agrees left = were-left-there plan asked t front rest logs after whole past agrees legal here left

pub returns-clause-script : goal.returns-clause-script
returns-clause-script c script = came-there (alike script)

pub returns-clause-keeps : goal.returns-clause-keeps
returns-clause-keeps c plan t front logs after n left within = keeps-there (life_there plan t front n) (after n) (left.own n within)
