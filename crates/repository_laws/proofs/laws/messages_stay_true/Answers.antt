use Rattle.repository_laws.proofs.Posts.{post-stays, post-stays-through, post-more}
use Rattle.repository_laws.proofs.laws.messages_stay_true.Goals as goal

pub returns-clause-step : goal.returns-clause-step
returns-clause-step c = post-stays

pub returns-clause-through : goal.returns-clause-through
returns-clause-through c = post-stays-through

pub returns-clause-more : goal.returns-clause-more
returns-clause-more c = post-more
