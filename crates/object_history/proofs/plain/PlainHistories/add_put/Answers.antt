use Rattle.std.proofs.Common.{◌∙◌}
use Rattle.object_history.proofs.KeptLemmas.{whole-put, push-put}
use Rattle.object_history.proofs.plain.PlainHistories.add_put.Goals as goal

pub invariant_of-self-in_default : goal.invariant_of-self-in_default
invariant_of-self-in_default c =
    let i = c.self.inside in
    whole-put i.marks.items c.push.new.self.items i.settles c.add.new.self c.args.object c.args.start c.args.value i.floor c.self.invariant.floors c.in_ok-push.ensures.items (push-put i.marks.items c.push.new.self.items i.settles i.tracks c.add.new.self c.args.object c.args.start c.args.value c.len-before.result c.self.invariant.kept c.in_ok-push.ensures.items c.requires.object c.requires.value
    (c.len-before.ensures ∙ i.marks.ok.0) c.in_default.ensures.ok)
