use Rattle.settle_law.proofs.LegalLemmas.{all-expired, none-sent}
use Rattle.settle_law.proofs.laws.law_of_settling.Goals as goal

pub returns-clause-silent : goal.returns-clause-silent
returns-clause-silent c = none-sent

pub returns-clause-expired : goal.returns-clause-expired
returns-clause-expired c = all-expired
