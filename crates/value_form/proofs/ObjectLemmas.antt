-- The order of objects is total, and only equal objects tie.
use Rattle.std.proofs.Common.{ℕ, ap}
use Rattle.std.specs.Ordering.{nat_cmp}
use Rattle.std.specs.Cmp.{IsTotalOrder}
use Rattle.std.proofs.lemmas.Cmp.{nat_cmp_total, on_total, then_total}
use Rattle.std.proofs.lemmas.Map.Lookups.{CmpEqualImpliesEq, exact_pairs, exact_unsigned}
use Rattle.value_form.specs.Objects.{object_cmp}

pub object_cmp-total : IsTotalOrder object_cmp
object_cmp-total = then_total (on_total (λ o. o.repository) nat_cmp_total) (on_total (λ o. o.number) nat_cmp_total)

pub object_cmp-exact : CmpEqualImpliesEq object_cmp
object_cmp-exact a b h = ap (λ (p : ℕ × ℕ). record { repository = p.0; number = p.1 })
    (exact_pairs nat_cmp nat_cmp exact_unsigned exact_unsigned (a.repository, a.number) (b.repository, b.number) h)
