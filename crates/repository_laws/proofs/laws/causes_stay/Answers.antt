use Rattle.repository_laws.proofs.Posts.{evidence-more, held-more}
use Rattle.repository_laws.proofs.laws.causes_stay.Goals as goal

pub returns-clause-effects : goal.returns-clause-effects
returns-clause-effects c = evidence-more

pub returns-clause-held : goal.returns-clause-held
returns-clause-held c = held-more
