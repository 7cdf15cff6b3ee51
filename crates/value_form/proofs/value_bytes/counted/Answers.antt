use Rattle.std.proofs.Common.{length, ◌≤◌, arith}
use Rattle.value_form.proofs.ValueLaws.{value_at-shorter}
use Rattle.value_form.proofs.value_bytes.counted.Goals as goal

pub overflow_sub-result : goal.overflow_sub-result
overflow_sub-result c = value_at-shorter c.args.bytes.now c.in_ok-value.value c.in_ok-value.rest.now (λ i. omega (arith, c.type_inv.bytes i)) c.in_ok-value.ensures

pub returns : goal.returns
returns c =
    let shorter : length c.in_ok-value.rest.now ≤ length c.args.bytes.now = value_at-shorter c.args.bytes.now c.in_ok-value.value c.in_ok-value.rest.now (λ i. omega (arith, c.type_inv.bytes i)) c.in_ok-value.ensures in
    (c.in_ok-value.rest.now, c.in_ok-value.ensures, omega arith)
