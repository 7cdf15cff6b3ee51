use Rattle.effect_form.proofs.Names.{◌∷◌, w32, to_be_bytes, stamp_bytes}
use Rattle.effect_form.proofs.Pieces.{two_texts}
use Rattle.effect_form.proofs.effect_writes.push_try.Goals as goal

pub returns : goal.returns
returns c = two_texts c.args.out.now.items c.push_numbered.new.out.items c.push_stamp.new.out.items (8 ∷ to_be_bytes w32 c.args.index) (stamp_bytes c.args.stamp) c.in_ok-push_numbered.ensures c.in_ok-push_stamp.ensures
