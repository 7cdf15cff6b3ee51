use Rattle.object_history.proofs.KeptLemmas.{whole-settle, push-again, push-settle}
use Rattle.object_history.proofs.plain.PlainHistories.add_settle.Goals as goal

pub invariant_of-self-then-is_some : goal.invariant_of-self-then-is_some
invariant_of-self-then-is_some c =
    let i = c.self.inside in
    whole-settle i.marks.items c.push.new.self.items i.settles i.tracks c.args.stamp c.args.committed i.floor c.self.invariant.floors c.in_ok-push.ensures.items (push-again i.marks.items c.push.new.self.items i.settles i.tracks c.args.stamp c.args.committed c.get.result c.self.invariant.kept c.in_ok-push.ensures.items c.get.ensures c.if-is_some.ensures)

pub invariant_of-self-in_default : goal.invariant_of-self-in_default
invariant_of-self-in_default c =
    let i = c.self.inside in
    whole-settle i.marks.items c.push.new.self.items c.put.new.self i.tracks c.args.stamp c.args.committed i.floor c.self.invariant.floors c.in_ok-push.ensures.items (push-settle i.marks.items c.push.new.self.items i.settles c.put.new.self i.tracks c.args.stamp c.args.committed c.get.result c.self.invariant.kept c.in_ok-push.ensures.items c.get.ensures c.if-is_some.ensures c.in_default.ensures.ok)
