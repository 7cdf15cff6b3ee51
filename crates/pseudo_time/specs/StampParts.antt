-- A stamp as contracts see it.
use Rattle.std.specs.Prelude.{ℕ, ◌≤◌, ◌<◌, ◌^◌, List, [], ◌∷◌, ◌++◌}
use Rattle.std.specs.Int.{w64, to_be_bytes}
use Rattle.std.specs.Ordering.{nat_cmp, ordering_then}
use Rattle.std.specs.declared.cmp.Ordering.{Ordering}

pub record StampParts : Type 0 where
  pub clock : ℕ
  pub broker : ℕ
  pub home : ℕ

-- clocks are 1 to 2^40 - 1, brokers and repositories 1 to 16
pub record IsInRange (clock broker home : ℕ) : Type 0 where
  pub clock_low : 1 ≤ clock
  pub clock_high : clock < 2 ^ 40
  pub broker_low : 1 ≤ broker
  pub broker_high : broker ≤ 16
  pub home_low : 1 ≤ home
  pub home_high : home ≤ 16

abbrev pub IsStamp : StampParts → Type 0
IsStamp s = IsInRange s.clock s.broker s.home

-- by clock, then broker, then home
abbrev pub stamp_cmp : StampParts → StampParts → Ordering
stamp_cmp a b = ordering_then (nat_cmp a.clock b.clock) (ordering_then (nat_cmp a.broker b.broker) (nat_cmp a.home b.home))

-- the clock in eight bytes, the broker and the home in one each
abbrev pub stamp_bytes : StampParts → List ℕ
stamp_bytes s = to_be_bytes w64 s.clock ++ s.broker ∷ s.home ∷ []
