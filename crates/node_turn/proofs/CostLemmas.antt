-- What entries cost.
use Rattle.node_turn.proofs.Names.{Rose, PaysFor, ℕ, ◌+◌, ◌≤◌, arith}

pub pays-none : (old new count now : ℕ) → new ≤ old → count ≤ now → PaysFor old count new now
pays-none old new count now le later first r = omega (arith, le, later, r)

-- a fault pays for one more
pub pays-one : (old new count now : ℕ) → new ≤ old + 1 → Rose count now → PaysFor old count new now
pays-one old new count now le rose first r = omega (arith, le, rose, r)
