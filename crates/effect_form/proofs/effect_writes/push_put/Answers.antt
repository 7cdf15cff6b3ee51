use Rattle.effect_form.proofs.Names.{time_bytes, object_bytes, value_bytes, back_bytes}
use Rattle.effect_form.proofs.Pieces.{tag_and_four}
use Rattle.effect_form.proofs.effect_writes.push_put.Goals as goal

pub returns : goal.returns
returns c = tag_and_four c.args.out.now.items c.push.new.self.items c.push_object_bytes.new.out.items c.push_time.new.out.items c.write.new.out.items c.push_back.new.out.items
    (object_bytes c.args.object) (time_bytes c.args.start) (value_bytes c.args.value.now) (back_bytes c.args.back) 1
    c.in_ok-push.ensures.items c.in_ok-push_object_bytes.ensures c.in_ok-push_time.ensures c.in_ok-write.ensures.ok c.in_ok-push_back.ensures
