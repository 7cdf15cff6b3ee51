use Rattle.serial_model.proofs.AgreeLemmas.{agrees-none, agrees-read, agrees-write, agrees-few, agrees-whole}
use Rattle.serial_model.proofs.laws.law_of_agreement.Goals as goal

pub returns-clause-begins : goal.returns-clause-begins
returns-clause-begins c = agrees-none

pub returns-clause-read : goal.returns-clause-read
returns-clause-read c = agrees-read

pub returns-clause-write : goal.returns-clause-write
returns-clause-write c = agrees-write

pub returns-clause-few : goal.returns-clause-few
returns-clause-few c = agrees-few

pub returns-clause-whole : goal.returns-clause-whole
returns-clause-whole c = agrees-whole
