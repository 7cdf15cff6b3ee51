use Rattle.pseudo_time.specs.Lists.{Every}
use Rattle.broker_core.specs.Ledgers.{IsBrokerAct}
use Rattle.part_cases.proofs.brokers.acts_of.Given as goal

-- those so far
abbrev pub invariant-loop-clock : goal.invariant-loop-clock
invariant-loop-clock l = Every IsBrokerAct l.acts.items
