use Rattle.effect_form.proofs.Pieces.{tag_and_two}
use Rattle.effect_form.proofs.Names.{object_bytes, time_bytes}
use Rattle.effect_form.proofs.outcome_bytes.push_refusal.Goals as goal

pub returns : goal.returns
returns c = tag_and_two c.args.out.now.items c.push.new.self.items c.push_object_bytes.new.out.items c.push_time.new.out.items (object_bytes c.args.object) (time_bytes c.args.time) c.args.tag c.in_ok-push.ensures.items c.in_ok-push_object_bytes.ensures c.in_ok-push_time.ensures
