use Rattle.broker_laws.proofs.Moves.{later-kept, post-kept, post-grown}
use Rattle.broker_laws.proofs.laws.messages_stay_true.Goals as goal

pub returns-clause-later : goal.returns-clause-later
returns-clause-later c = later-kept

pub returns-clause-kept : goal.returns-clause-kept
returns-clause-kept c = post-kept

pub returns-clause-grown : goal.returns-clause-grown
returns-clause-grown c = post-grown
