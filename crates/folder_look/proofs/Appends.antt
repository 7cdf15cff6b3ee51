-- What calls append one behind the other, as one text.
use Rattle.folder_look.proofs.Names.{◌≡◌, ℕ, ◌+◌, List, [], ◌∷◌, ◌++◌, append_assoc, sym, ◌∙◌, ap, subst, ◌<◌, arith, get_or, length, take, Result, Ok, Err, OnOk, if◌then◌else◌, flat_map, append-nil}
use Prim.Native.Nat.{suc}
use Rattle.std.specs.Result.{is_ok}
use Rattle.std.proofs.lemmas.Grind.{flat_map-append}
use Rattle.std.proofs.Math.Seq.{take-suc}

-- one text and then another
pub behind : (m n z p q : List ℕ) → n ≡ m ++ p → z ≡ n ++ q → z ≡ m ++ (p ++ q)
behind m n z p q e f = f ∙ ap (λ t. t ++ q) e ∙ append_assoc m p q

-- a slice, by what `Vec` says of it
pub slice : {E : Type 0} (r : Result (Unit {0}) E) (m z q : List ℕ) → z ≡ (if is_ok r then m ++ q else m) → OnOk r (z ≡ m ++ q)
slice (Ok x) m z q e = e
slice (Err x) m z q e = tt

-- a text in front of what a last call appends
pub before : {E : Type 0} (r : Result (Unit {0}) E) (m n z p q : List ℕ) → n ≡ m ++ p → OnOk r (z ≡ n ++ q) → OnOk r (z ≡ m ++ (p ++ q))
before (Ok x) m n z p q e f = behind m n z p q e f
before (Err x) m n z p q e f = tt

-- the same text by another name
pub named-so : {E : Type 0} (r : Result (Unit {0}) E) (m z p q : List ℕ) → p ≡ q → OnOk r (z ≡ m ++ p) → OnOk r (z ≡ m ++ q)
named-so (Ok x) m z p q e f = f ∙ ap (λ t. m ++ t) e
named-so (Err x) m z p q e f = tt

plus-one : (n : ℕ) → suc n ≡ n + 1
plus-one n = omega arith

-- one more of those that a loop goes through
pub take-one : {X : Type 0} (xs : List X) (i : ℕ) (d : X) → i < length xs → take (i + 1) xs ≡ take i xs ++ get_or xs i d ∷ []
take-one xs i d h = subst (λ k. take k xs ≡ take i xs ++ get_or xs i d ∷ []) (plus-one i) (take-suc xs i d h)

-- the text of one more of those that a loop goes through
pub each : {X : Type 0} (f : X → List ℕ) (xs : List X) (i : ℕ) (x : X) (a b z : List ℕ) → take (i + 1) xs ≡ take i xs ++ x ∷ [] → b ≡ a ++ flat_map f (take i xs) → z ≡ b ++ f x → z ≡ a ++ flat_map f (take (i + 1) xs)
each f xs i x a b z t e k =
    behind a b z _ _ e k
    ∙ ap (λ w. a ++ w) (sym (ap (flat_map f) t ∙ flat_map-append f (take i xs) (x ∷ []) ∙ ap (λ w. flat_map f (take i xs) ++ w) (append-nil (f x))))
