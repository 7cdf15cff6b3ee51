-- The versions of an object are as many as its Puts, and no two have one place.
use Prim.Native.Nat.{zero, suc}
use Rattle.folder_look.proofs.Names.{ObjectId, Mark, Seen, falling, VersionRow, ◌≡◌, ℕ, ◌+◌, ◌-◌, Bool, true, false, List, [], ◌∷◌, length, take, refl, ◌∙◌, ap, if◌then◌else◌, arith, lt, version_count, version_in}
use Rattle.object_history.specs.declared.marks.Mark.TheVariants.{Put, Stretch, Settle, Floor}
use Rattle.object_history.specs.Objects.{same_object}

length-if : (b : Bool) (q p : Seen) (ps qs : List Seen) → length qs ≡ suc (length ps) → length (if b then p ∷ qs else q ∷ p ∷ ps) ≡ suc (length (p ∷ ps))
length-if true q p ps qs h = ap suc h
length-if false q p ps qs h = refl

length-in : (q : Seen) (ps : List Seen) → length (version_in q ps) ≡ suc (length ps)
unfolding version_in
length-in q [] = refl
length-in q (p ∷ ps) = length-if (lt q.start p.start) q p ps (version_in q ps) (length-in q ps)

plus-one : (n : ℕ) → suc n ≡ n + 1
plus-one n = omega arith

count-if : (b : Bool) (q : Seen) (ps : List Seen) (n : ℕ) → length ps ≡ n → length (if b then version_in q ps else ps) ≡ (if b then n + 1 else n)
count-if true q ps n h = length-in q ps ∙ ap suc h ∙ plus-one n
count-if false q ps n h = h

pub count : (o : ObjectId) (m : List Mark) → length (falling o m) ≡ version_count o m
unfolding falling version_count
count o [] = refl
count o (Put a x v ∷ m) = count-if (same_object a o) (record { place = version_count o m; start = x; value = v }) (falling o m) (version_count o m) (count o m)
count o (Stretch a x ∷ m) = count o m
count o (Settle s c ∷ m) = count o m
count o (Floor z ∷ m) = count o m

less-one : (a b n : ℕ) → a + (b - n) ≡ b → suc a + (suc b - suc n) ≡ suc b
less-one a b n h = omega arith

all-of : (n : ℕ) → 0 + (n - 0) ≡ n
all-of n = omega arith

none-of : (n : ℕ) → 0 + (0 - n) ≡ 0
none-of n = omega arith

-- those that are shown and those that are hidden are all
pub all-shown : (n : ℕ) (xs : List VersionRow) → length (take n xs) + (length xs - n) ≡ length xs
all-shown zero xs = all-of (length xs)
all-shown (suc n) [] = none-of (suc n)
all-shown (suc n) (x ∷ xs) = less-one (length (take n xs)) (length xs) n (all-shown n xs)
