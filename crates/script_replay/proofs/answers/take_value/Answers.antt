use Rattle.script_meaning.specs.Meaning.{Got}
use Rattle.script_run.specs.declared.nexts.Next.TheVariants as next
use Rattle.script_replay.proofs.WorkLemmas.{answered-read, none-took, now-agrees, now-tells}
use Rattle.script_replay.proofs.answers.take_value.Goals as goal

pub give_held-requires-clause-tells : goal.give_held-requires-clause-tells
give_held-requires-clause-tells c = now-tells c.args.run.now c.next.new.self c.in_ok-next.next (next.Read c.in-Read.object) c.in-Read.is c.in_ok-next.ensures.tells c.next.ensures.script c.next.ensures.answers

pub give_held-requires-clause-agrees : goal.give_held-requires-clause-agrees
give_held-requires-clause-agrees c = now-agrees c.args.map.now c.args.run.now c.next.new.self c.args.writes.now c.requires c.next.ensures.script c.next.ensures.answers

pub returns-in_default : goal.returns-in_default
returns-in_default c =
    none-took c.args.map.now c.args.run.now c.next.new.self c.next.new.self c.args.writes.now c.requires c.in_ok-next.next (Got c.args.value.now) c.args.writes.now c.in_ok-next.ensures.tells
    (answered-read c.in_ok-next.next c.args.value.now c.in_default.not-Read)
