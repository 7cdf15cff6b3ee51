use Rattle.object_retirement.proofs.OlderLemmas.{given-up, given-up-fits, given-up-again}
use Rattle.object_retirement.proofs.laws.retirement_gives_up.Goals as goal

pub returns-clause-retired : goal.returns-clause-retired
returns-clause-retired c = given-up

pub returns-clause-fits : goal.returns-clause-fits
returns-clause-fits c = given-up-fits

pub returns-clause-again : goal.returns-clause-again
returns-clause-again c = given-up-again
