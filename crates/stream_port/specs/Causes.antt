-- When a call may answer a fault: only where its object's count rose in that call.
use Rattle.std.specs.Prelude.{ℕ, ◌+◌, ◌-◌, ◌^◌, ◌≤◌, min, Result, OnErr}
use Rattle.std.proofs.Common.{arith}

-- the count after one more: a count stays at 2^64 - 1
abbrev pub next_count : ℕ → ℕ
next_count n = min (n + 1) (2 ^ 64 - 1)

-- the count rose by n or more, or it stands at its end
abbrev pub RoseBy : ℕ → ℕ → ℕ → Type 0
RoseBy n before now = min (before + n) (2 ^ 64 - 1) ≤ now

-- the count rose, or it stands at its end
abbrev pub Rose : ℕ → ℕ → Type 0
Rose before now = RoseBy 1 before now

-- the count never falls, and an error is answered only where it rose
pub record HasCause {T E : Type 0} (before now : ℕ) (result : Result T E) : Type 0 where
  pub later : before ≤ now
  pub failed : OnErr result (Rose before now)

-- what a count rose by in two runs, one after the other, adds up
pub rises_add : (m n before between now : ℕ) → RoseBy m before between → RoseBy n between now → RoseBy (m + n) before now
rises_add m n before between now first second = omega (arith, first, second)

-- a count that doesn't fall keeps what it rose by before
pub rise_stays : (n before between now : ℕ) → RoseBy n before between → between ≤ now → RoseBy n before now
rise_stays n before between now rose later = omega (arith, rose, later)

-- and what it rises by later
pub rise_counts : (n before between now : ℕ) → before ≤ between → RoseBy n between now → RoseBy n before now
rise_counts n before between now later rose = omega (arith, rose, later)

-- a count that didn't fall rose by none or more
pub rose_by_none : (before now : ℕ) → before ≤ now → RoseBy 0 before now
rose_by_none before now later = omega (arith, later)

-- a rise by more is one by fewer
pub rise_of_fewer : (m n before now : ℕ) → m ≤ n → RoseBy n before now → RoseBy m before now
rise_of_fewer m n before now fewer rose = omega (arith, rose, fewer)
