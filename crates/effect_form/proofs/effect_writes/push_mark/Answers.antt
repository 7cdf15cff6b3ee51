use Rattle.effect_form.proofs.Names.{◌∷◌, [], time_bytes}
use Rattle.effect_form.proofs.Pieces.{two_texts}
use Rattle.effect_form.proofs.effect_writes.push_mark.Goals as goal

pub returns : goal.returns
returns c = two_texts c.args.out.now.items c.push.new.self.items c.push_time.new.out.items (12 ∷ []) (time_bytes c.args.at) c.in_ok-push.ensures.items c.in_ok-push_time.ensures
