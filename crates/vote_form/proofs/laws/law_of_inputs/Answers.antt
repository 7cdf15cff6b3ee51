use Rattle.vote_form.proofs.PollsLemmas.{one-input, fault-of-none}
use Rattle.vote_form.proofs.laws.law_of_inputs.Goals as goal

pub returns-clause-one : goal.returns-clause-one
returns-clause-one c = one-input

pub returns-clause-none : goal.returns-clause-none
returns-clause-none c = fault-of-none
