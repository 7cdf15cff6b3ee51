-- What it is for a stored callback to follow a rule.
use Rattle.std.specs.Prelude.{◌≡◌, Option, Result, IfOk}
use Rattle.std.specs.Borrow.{Bor}
use Rattle.std.specs.Fn.{Shared}

-- it may be called on every total and version, and then it answers what next says, unless memory runs out
pub record Follows {F T V E : Type 0} (call : Shared F (Bor T × (Bor V × Unit {0})) (Result (Option T) E)) (next : T → V → Option T) (f : F) : Type 0 where
  pub takes : (total : Bor T) (version : Bor V) → call.pre f (total, (version, tt))
  pub gives : (total : Bor T) (version : Bor V) (r : Result (Option T) E) → call.post f (total, (version, tt)) r → IfOk r (λ t. t ≡ next total.now version.now)
