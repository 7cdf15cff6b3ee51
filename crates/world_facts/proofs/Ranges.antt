-- Numbers of nodes within those of a plan.
use Rattle.world_facts.proofs.Names.{◌≡◌, ℕ, nat_le, true, and_from, and_parts, le-leb, leb-true, is_within}
use Rattle.plan_form.specs.Plans.{InRange}

pub within : (i most : ℕ) → InRange most i → is_within i most ≡ true
within i most h = and_from (nat_le 1 i) (nat_le i most) (le-leb 1 i h.0) (le-leb i most h.1)

pub in-range : (i most : ℕ) → is_within i most ≡ true → InRange most i
in-range i most h = let parts = and_parts (nat_le 1 i) (nat_le i most) h in (leb-true 1 i parts.0, leb-true i most parts.1)
