use Rattle.repository_laws.proofs.Whole.{gives-taking, gives-learning, gives-hearing}
use Rattle.repository_laws.proofs.laws.turns_keep_facts.Goals as goal

pub returns-clause-taking : goal.returns-clause-taking
returns-clause-taking c = λ ever homes ticks r log mind from m g. gives-taking ever homes ticks r log mind g from m

pub returns-clause-learning : goal.returns-clause-learning
returns-clause-learning c = λ ever homes ticks r log mind s b g. gives-learning ever homes ticks r log mind g s b

pub returns-clause-hearing : goal.returns-clause-hearing
returns-clause-hearing c = λ ever homes ticks r log mind m g. gives-hearing ever homes ticks r log mind g m
