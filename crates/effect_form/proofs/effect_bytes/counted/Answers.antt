use Rattle.std.proofs.Common.{length, ◌≤◌, arith}
use Rattle.effect_form.proofs.ReadLaws.{effect_at-shorter}
use Rattle.effect_form.proofs.effect_bytes.counted.Goals as goal

pub overflow_sub-result : goal.overflow_sub-result
overflow_sub-result c = effect_at-shorter c.args.bytes.now (c.in_ok-effect.effect, c.in_ok-effect.back) c.in_ok-effect.rest.now (λ i. omega (arith, c.type_inv.bytes i)) c.in_ok-effect.ensures

pub returns : goal.returns
returns c =
    let shorter : length c.in_ok-effect.rest.now ≤ length c.args.bytes.now = effect_at-shorter c.args.bytes.now (c.in_ok-effect.effect, c.in_ok-effect.back) c.in_ok-effect.rest.now (λ i. omega (arith, c.type_inv.bytes i)) c.in_ok-effect.ensures in
    (c.in_ok-effect.rest.now, c.in_ok-effect.ensures, omega arith)
