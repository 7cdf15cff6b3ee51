use Rattle.effect_form.proofs.ReadLaws.{length-effect_bytes}
use Rattle.effect_form.proofs.effect_bytes.back_place_has_six_bytes.Goals as goal

pub returns : goal.returns
returns c = length-effect_bytes
