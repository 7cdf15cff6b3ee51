-- A test that holds or doesn't.
use Rattle.std.proofs.Common.{◌≡◌, Bool, true, false, ◌&&◌, refl}

pub by_test : (p : Bool) (P : Bool → Type 0) → (p ≡ true → P true) → (p ≡ false → P false) → P p
by_test true P yes_case no_case = yes_case refl
by_test false P yes_case no_case = no_case refl

pub both_hold : (p q : Bool) → (p && q) ≡ true → (p ≡ true) × (q ≡ true)
both_hold true q e = (refl, e)
both_hold false q e = absurd (cc)
