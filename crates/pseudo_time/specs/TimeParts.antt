-- A pseudotime as contracts see it.
use Rattle.std.specs.Prelude.{ℕ, ◌≤◌, ◌<◌, ◌^◌, List, ◌++◌}
use Rattle.std.specs.Int.{w32, to_be_bytes}
use Rattle.std.specs.Ordering.{nat_cmp, ordering_then}
use Rattle.std.specs.declared.cmp.Ordering.{Ordering}
use Rattle.pseudo_time.specs.StampParts.{StampParts, IsStamp, stamp_cmp, stamp_bytes}

pub record TimeParts : Type 0 where
  pub stamp : StampParts
  pub step : ℕ

-- steps are 1 to 2^32 - 1
pub record HasStep (stamp : StampParts) (step : ℕ) : Type 0 where
  pub stamp_in_range : IsStamp stamp
  pub step_low : 1 ≤ step
  pub step_high : step < 2 ^ 32

abbrev pub IsTime : TimeParts → Type 0
IsTime t = HasStep t.stamp t.step

-- by stamp, then step
abbrev pub time_cmp : TimeParts → TimeParts → Ordering
time_cmp a b = ordering_then (stamp_cmp a.stamp b.stamp) (nat_cmp a.step b.step)

-- the stamp's ten bytes, then the step in four
abbrev pub time_bytes : TimeParts → List ℕ
time_bytes t = stamp_bytes t.stamp ++ to_be_bytes w32 t.step
