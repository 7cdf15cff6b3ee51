use Rattle.object_history.proofs.KeptLemmas.{whole-stretch, push-stretch}
use Rattle.object_history.proofs.plain.PlainHistories.add_stretch.Goals as goal

pub invariant_of-self-in_default : goal.invariant_of-self-in_default
invariant_of-self-in_default c =
    let i = c.self.inside in
    whole-stretch i.marks.items c.push.new.self.items i.settles c.stretch.new.self c.args.object c.args.at i.floor c.self.invariant.floors c.in_ok-push.ensures.items (push-stretch i.marks.items c.push.new.self.items c.args.self.now i.settles i.tracks c.stretch.new.self c.args.object c.args.at c.place_seen-place.result c.self.invariant.kept c.in_ok-push.ensures.items c.requires c.self.view_is
    c.place_seen-place.ensures c.in_default.ensures.ok)
