-- How a list is dealt to shares.
use Rattle.std.specs.Prelude.{◌≡◌, ℕ, ◌+◌, ◌/◌, ◌%◌, ◌≤◌, List, slice_get, Some, vec_capacity, All}
use Rattle.std.specs.declared.vec.Vec.{Vec}

module _ {T A : Type 0} where
  -- Element i of the list, counted from 0, stands in share i % W of W, in place i / W, and nothing else stands there.
  abbrev pub IsDealt : ℕ → List T → List (Vec T A) → Type 0
  IsDealt W xs shares = (i : ℕ) (s : Vec T A) → slice_get shares (i % W) ≡ Some s → slice_get s.items (i / W) ≡ slice_get xs i

  -- each of W shares has room for its elements of a list of so many
  abbrev pub HaveRoom : ℕ → ℕ → List (Vec T A) → Type 0
  HaveRoom W count shares = All (λ s. count / W + 1 ≤ vec_capacity s) shares
