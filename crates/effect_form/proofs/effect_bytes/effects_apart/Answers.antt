use Rattle.effect_form.proofs.ReadLaws.{effect_bytes-apart}
use Rattle.effect_form.proofs.effect_bytes.effects_apart.Goals as goal

pub returns : goal.returns
returns c = effect_bytes-apart
