use Rattle.std.proofs.Common.{Some, ap, subst, ◌∙◌}
use Rattle.script_meaning.specs.Meaning.{Stored}
use Rattle.script_run.specs.RunParts.{Tells}
use Rattle.script_replay.proofs.WorkLemmas.{answered-write, none-took, write-took}
use Rattle.script_replay.proofs.answers.take_stored.Goals as goal

pub returns-in_ok-set-in-Write : goal.returns-in_ok-set-in-Write
returns-in_ok-set-in-Write c =
    write-took c.args.map.now c.args.run.now c.next.new.self c.stored.new.self c.args.writes.now c.requires c.in-Write.object c.in-Write.value c.set.new.self
    (subst (Tells c.args.run.now.script c.args.run.now.answers c.next.new.self.lines) c.in-Write.is c.in_ok-next.ensures.tells)
    (c.in_ok-next.ensures.said ∙ ap Some c.in-Write.is) c.next.ensures.script c.next.ensures.answers c.in_ok-set-in-Write.ensures.ok c.stored.ensures

pub returns-in_default : goal.returns-in_default
returns-in_default c =
    none-took c.args.map.now c.args.run.now c.next.new.self c.next.new.self c.args.writes.now c.requires c.in_ok-next.next Stored c.args.writes.now c.in_ok-next.ensures.tells
    (answered-write c.in_ok-next.next c.in_default.not-Write)
