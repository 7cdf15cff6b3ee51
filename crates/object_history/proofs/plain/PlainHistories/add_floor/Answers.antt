use Rattle.object_history.proofs.KeptLemmas.{push-floor}
use Rattle.object_history.proofs.plain.PlainHistories.add_floor.Goals as goal

-- src/plain.rt:157:5
pub invariant_of-self-2 : goal.invariant_of-self-2
invariant_of-self-2 c =
    let i = c.self.inside in
    push-floor i.marks.items c.push.new.self.items i.settles i.tracks c.args.at c.later.result i.floor c.self.invariant c.in_ok-push.ensures.items c.later.ensures
