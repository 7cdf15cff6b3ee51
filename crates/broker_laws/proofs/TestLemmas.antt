-- What the tests of equality say.
use Rattle.broker_laws.proofs.Names.{StampParts, same_stamp, same_time, TimeParts, same_stamp-is, Task, is_task, ◌≡◌, ℕ, ◌<◌, ◌==◌, Bool, true, false, ◌&&◌, List, [], ◌∷◌, refl, ap, Option, Some, None, arith, eqb-true, eq-eqb, same_time-of, same_bytes, same_task}

pub and-left : (a b : Bool) → (a && b) ≡ true → a ≡ true
and-left true b h = refl
and-left false b h = cc

pub and-right : (a b : Bool) → (a && b) ≡ true → b ≡ true
and-right true b h = h
and-right false b h = cc

pub and-both : {a b : Bool} → a ≡ true → b ≡ true → (a && b) ≡ true
and-both h k = rw h k

not-true : (b : Bool) → (b ≡ true → ⊥) → b ≡ false
not-true true h = absurd (h refl)
not-true false h = refl

-- a stamp with a lower clock is another one
pub same_stamp-below : (a b : StampParts) → a.clock < b.clock → same_stamp a b ≡ false
same_stamp-below a b h = not-true (same_stamp a b) (λ e. let c : a.clock ≡ b.clock = ap (λ (s : StampParts). s.clock) (same_stamp-is a b e) in absurd (omega (arith, h, c)))

-- a pseudotime is the same as itself
pub same_time-self : (a : TimeParts) → same_time a a ≡ true
same_time-self a = same_time-of a a refl

pub same_bytes-is : (xs ys : List ℕ) → same_bytes xs ys ≡ true → xs ≡ ys
same_bytes-is [] [] h = refl
same_bytes-is [] (y ∷ ys) h = cc
same_bytes-is (x ∷ xs) [] h = cc
same_bytes-is (x ∷ xs) (y ∷ ys) h =
    let e : x ≡ y = eqb-true x y (and-left (x == y) _ h) in
    let t : xs ≡ ys = same_bytes-is xs ys (and-right (x == y) _ h) in cc

pub same_bytes-self : (xs : List ℕ) → same_bytes xs xs ≡ true
same_bytes-self [] = refl
same_bytes-self (x ∷ xs) = and-both (eq-eqb x x refl) (same_bytes-self xs)

task-of : (i h t k c : ℕ) (x : List ℕ) (i' h' t' k' c' : ℕ) (x' : List ℕ) → i ≡ i' → h ≡ h' → t ≡ t' → k ≡ k' → c ≡ c' → x ≡ x' →
    ◌≡◌ {A = Task} (record { index = i; home = h; timeout = t; tries = k; clock = c; script = x }) (record { index = i'; home = h'; timeout = t'; tries = k'; clock = c'; script = x' })
task-of i h t k c x i' h' t' k' c' x' a b d e f g = cc

pub same_task-is : (a b : Task) → same_task a b ≡ true → a ≡ b
same_task-is a b h =
    let h2 = and-right (a.index == b.index) _ h in
    let h3 = and-right (a.home == b.home) _ h2 in
    let h4 = and-right (a.timeout == b.timeout) _ h3 in
    let h5 = and-right (a.tries == b.tries) _ h4 in
    task-of a.index a.home a.timeout a.tries a.clock a.script b.index b.home b.timeout b.tries b.clock b.script
    (eqb-true _ _ (and-left (a.index == b.index) _ h)) (eqb-true _ _ (and-left (a.home == b.home) _ h2))
    (eqb-true _ _ (and-left (a.timeout == b.timeout) _ h3)) (eqb-true _ _ (and-left (a.tries == b.tries) _ h4))
    (eqb-true _ _ (and-left (a.clock == b.clock) _ h5)) (same_bytes-is _ _ (and-right (a.clock == b.clock) _ h5))

pub same_task-self : (a : Task) → same_task a a ≡ true
same_task-self a = and-both (eq-eqb a.index a.index refl) (and-both (eq-eqb a.home a.home refl) (and-both (eq-eqb a.timeout a.timeout refl)
    (and-both (eq-eqb a.tries a.tries refl) (and-both (eq-eqb a.clock a.clock refl) (same_bytes-self a.script)))))

pub is_task-is : (o : Option Task) (a : Task) → is_task o a ≡ true → o ≡ Some a
is_task-is None a h = cc
is_task-is (Some x) a h = ap (λ y. Some y) (same_task-is x a h)

pub is_task-of : (o : Option Task) (a : Task) → o ≡ Some a → is_task o a ≡ true
is_task-of None a h = cc
is_task-of (Some x) a h = let e : x ≡ a = cc in rw e (same_task-self a)
