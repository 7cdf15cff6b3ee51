-- What sources and sinks over memory hold, and what a sink takes.
use Rattle.std.specs.Prelude.{ℕ, ◌≤◌, ◌<◌, List, length, Result, IfOk}

-- a source over memory
pub record SourceParts : Type 0 where
  -- the bytes left
  pub left : List ℕ
  -- the most bytes that a call gives
  pub most : ℕ
  -- the numbers of the calls that are to fail
  pub fails : List ℕ
  -- how many calls there were
  pub calls : ℕ
  -- how many of them failed
  pub faults : ℕ

-- a sink over memory
pub record SinkParts : Type 0 where
  -- the bytes taken so far
  pub taken : List ℕ
  -- the most bytes that a call takes
  pub most : ℕ
  pub fails : List ℕ
  pub calls : ℕ
  pub faults : ℕ
  -- how many calls failed because memory ran out
  pub starved : ℕ

-- on `Ok(n)` the first n bytes were taken, and at least one where there are any
abbrev pub TakesSome : {E : Type 0} → Result ℕ E → List ℕ → Type 0
TakesSome result bytes = IfOk result (λ n. (n ≤ length bytes) × (0 < length bytes → 1 ≤ n))
