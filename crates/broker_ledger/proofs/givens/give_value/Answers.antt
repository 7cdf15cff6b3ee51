use Rattle.broker_ledger.proofs.GivenLemmas.{said-read, value-given}
use Rattle.broker_ledger.proofs.givens.give_value.Goals as goal

pub give-requires : goal.give-requires
give-requires c = said-read c.args.run.now c.next.new.self c.in_ok-_next._next c.args.value.now c.in_ok-_next.ensures.tells c.in_ok-_next.ensures.said c.requires

pub returns-clause-script : goal.returns-clause-script
returns-clause-script c =
    (value-given c.args.run.now c.next.new.self c.in_ok-_next._next c.give.new.self c.args.value.now c.in_ok-value.value c.in_ok-_next.ensures.tells c.in_ok-_next.ensures.said c.next.ensures.script c.next.ensures.answers
    c.requires c.in_ok-value.ensures c.give.ensures).0

pub returns-clause-ok : goal.returns-clause-ok
returns-clause-ok c =
    (value-given c.args.run.now c.next.new.self c.in_ok-_next._next c.give.new.self c.args.value.now c.in_ok-value.value c.in_ok-_next.ensures.tells c.in_ok-_next.ensures.said c.next.ensures.script c.next.ensures.answers
    c.requires c.in_ok-value.ensures c.give.ensures).1
