-- What stands on a line of its own.
use Rattle.std.specs.Prelude.{ℕ, List}
use Rattle.value_form.specs.Mirror.{Term, Spot}

pub data Row : Type 0 where
  Let : (name : List ℕ) → Term → Row
  Read : (name : List ℕ) → Spot → Row
  Write : Spot → Term → Row
  Print : Term → Row
  If : Term → Row
  Else : Row
  End : Row
  Repeat : Term → Row
  Withdraw : Row
