use Rattle.value_form.proofs.ValueLaws.{value_bytes-apart}
use Rattle.value_form.proofs.value_bytes.values_apart.Goals as goal

pub returns : goal.returns
returns c = value_bytes-apart
