use Rattle.broker_ledger.proofs.GivenLemmas.{said-write, stored-given}
use Rattle.broker_ledger.proofs.givens.give_stored.Goals as goal

pub stored-requires : goal.stored-requires
stored-requires c = said-write c.args.run.now c.next.new.self c.in_ok-_next._next c.in_ok-_next.ensures.tells c.in_ok-_next.ensures.said c.requires

pub returns-clause-script : goal.returns-clause-script
returns-clause-script c =
    (stored-given c.args.run.now c.next.new.self c.in_ok-_next._next c.stored.new.self c.in_ok-_next.ensures.tells c.in_ok-_next.ensures.said c.next.ensures.script c.next.ensures.answers c.requires c.stored.ensures).0

pub returns-clause-ok : goal.returns-clause-ok
returns-clause-ok c =
    (stored-given c.args.run.now c.next.new.self c.in_ok-_next._next c.stored.new.self c.in_ok-_next.ensures.tells c.in_ok-_next.ensures.said c.next.ensures.script c.next.ensures.answers c.requires c.stored.ensures).1
