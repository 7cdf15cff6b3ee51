use Rattle.pseudo_time.proofs.OrderLemmas.{lt-irreflexive, lt-trans, lt-total, lt-stamps, lt-own, lt-steps, between}
use Rattle.pseudo_time.proofs.times.order_of_times.Goals as goal

pub returns-clause-irreflexive : goal.returns-clause-irreflexive
returns-clause-irreflexive c = lt-irreflexive

pub returns-clause-transitive : goal.returns-clause-transitive
returns-clause-transitive c = lt-trans

pub returns-clause-total : goal.returns-clause-total
returns-clause-total c = lt-total

pub returns-clause-stamps : goal.returns-clause-stamps
returns-clause-stamps c = lt-stamps

pub returns-clause-own : goal.returns-clause-own
returns-clause-own c = lt-own

pub returns-clause-steps : goal.returns-clause-steps
returns-clause-steps c = lt-steps

pub returns-clause-between : goal.returns-clause-between
returns-clause-between c = between
