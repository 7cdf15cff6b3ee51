use Rattle.serial_model.proofs.AskedLemmas.{asked-none, asked-next, asked-front, asked-few}
use Rattle.serial_model.proofs.laws.law_of_asking.Goals as goal

pub returns-clause-begins : goal.returns-clause-begins
returns-clause-begins c = asked-none

pub returns-clause-next : goal.returns-clause-next
returns-clause-next c = asked-next

pub returns-clause-front : goal.returns-clause-front
returns-clause-front c = asked-front

pub returns-clause-few : goal.returns-clause-few
returns-clause-few c = asked-few
