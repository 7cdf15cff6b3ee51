use Rattle.field_form.proofs.NumberLaws.{byte_form, u16_form, u32_form, u64_form, signed_form}
use Rattle.field_form.proofs.TimeLaws.{stamp_form, time_form}
use Rattle.field_form.proofs.DecisionLaws.{decision_form}
use Rattle.field_form.proofs.laws.fields_are_forms.Goals as goal

pub returns : goal.returns
returns c = record { byte = byte_form; number16 = u16_form; number32 = u32_form; number64 = u64_form; signed = signed_form; stamp = stamp_form; time = time_form; decision = decision_form }
