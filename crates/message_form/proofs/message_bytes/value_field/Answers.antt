use Rattle.std.proofs.Common.{arith}
use Rattle.effect_form.proofs.ReadLaws.{value_field_is}
use Rattle.message_form.proofs.message_bytes.value_field.Goals as goal

pub returns-in-Ok : goal.returns-in-Ok
returns-in-Ok c =
    let read = c.in-Ok.ensures.exact in
    value_field_is c.args.at c.in-Ok.count c.args.bytes.now read.0 c.in-Ok.value (λ i. omega (arith, c.type_inv.bytes i)) read.1 read.2
