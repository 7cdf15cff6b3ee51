-- Plain Booleans.
use Rattle.object_history.proofs.Names.{◌≡◌, Bool, true, false, refl, ◌&&◌, false≢true}

pub and-both : (a b : Bool) → a ≡ true → b ≡ true → (a && b) ≡ true
and-both true b h k = k
and-both false b h k = absurd (false≢true h)

pub and-left : (a b : Bool) → (a && b) ≡ true → a ≡ true
and-left true b h = refl
and-left false b h = h

pub and-right : (a b : Bool) → (a && b) ≡ true → b ≡ true
and-right true b h = h
and-right false b h = absurd (false≢true h)

pub not-false : (a : Bool) → (a ≡ true → ⊥) → a ≡ false
not-false true h = absurd (h refl)
not-false false h = refl

pub not-true : (a : Bool) → (a ≡ false → ⊥) → a ≡ true
not-true true h = refl
not-true false h = absurd (h refl)
