-- What a scan finds.
use Rattle.object_history.proofs.Names.{StampParts, TimeParts, ObjectId, Value, Mark, Put, Stretch, Settle, Floor, lt, same_object, version_count, newest, reach, Seen, settle_of, is_alive, alive, starts_above, pick, scan, Starts, IsVersion, Distinct, Fits, lt-irreflexive, write_step, Has, ◌≡◌, ◌≢◌, Bool, true, false, List, [], ◌∷◌, refl, sym, ◌∙◌, ap, subst, Option, Some, None, ◌&&◌, not, if◌then◌else◌, inl, inr, true≢false}
use Rattle.object_history.proofs.Words.{Passes, Ends, AtMost}
use Rattle.object_history.proofs.ObjectLemmas.{same_object-is}
use Rattle.object_history.specs.declared.steps.WriteStep.TheVariants as write
use Rattle.object_history.proofs.StableLemmas.{starts-map, low-all, put-says, settled-stays, scan-passes}
use Rattle.object_history.proofs.ViewLemmas.{top-all}

-- what is found stands there, passes, and nothing that passes lies above it
abbrev pub Found : (TimeParts → Bool) → ObjectId → List Mark → Option Seen → Type 0
Found ok o m None = Starts (λ y. ok y ≡ true → ⊥) o m
Found ok o m (Some q) = IsVersion o m q × (ok q.start ≡ true) × Starts (λ y. ok y ≡ true → lt q.start y ≡ false) o m

abbrev pub Standing : ObjectId → List Mark → Option Seen → Type 0
Standing o m None = Unit {0}
Standing o m (Some q) = IsVersion o m q

standing-more : (o : ObjectId) (a : ObjectId) (x : TimeParts) (v : Value) (m : List Mark) (r : Option Seen) → Standing o m r → Standing o (Put a x v ∷ m) r
standing-more o a x v m None s = tt
standing-more o a x v m (Some q) s = inr s

standing-pick : (e b c : Bool) (a o : ObjectId) (x : TimeParts) (v : Value) (m : List Mark) (r : Option Seen) → (e ≡ true → a ≡ o) →
    Standing o m r → Standing o (Put a x v ∷ m) (if (e && b) && not c then Some (record { place = version_count o m; start = x; value = v }) else r)
standing-pick true true false a o x v m r h s = inl (h refl, refl)
standing-pick true true true a o x v m r h s = standing-more o a x v m r s
standing-pick true false c a o x v m r h s = standing-more o a x v m r s
standing-pick false b c a o x v m r h s = standing-more o a x v m r s

pub standing : (ok : TimeParts → Bool) (o : ObjectId) (m : List Mark) → Standing o m (scan ok o m)
unfolding scan pick
standing ok o [] = tt
standing ok o (Put a x v ∷ m) = standing-pick (same_object a o) (ok x) (starts_above (scan ok o m) x) a o x v m (scan ok o m) (same_object-is a o) (standing ok o m)
standing ok o (Stretch a x ∷ m) = standing ok o m
standing ok o (Settle s c ∷ m) = standing ok o m
standing ok o (Floor z ∷ m) = standing ok o m

found-of : (ok : TimeParts → Bool) (o : ObjectId) (m : List Mark) (r : Option Seen) → Standing o m r → Passes ok r →
    Starts (λ y. ok y ≡ true → AtMost r y) o m → Found ok o m r
found-of ok o m None s p t = t
found-of ok o m (Some q) s p t = (s, p, t)

pub found : (ok : TimeParts → Bool) (o : ObjectId) (m : List Mark) → Found ok o m (scan ok o m)
found ok o m = found-of ok o m (scan ok o m) (standing ok o m) (scan-passes ok o m) (top-all ok o m)

-- tests that agree on the starts find the same
and-same : (e p q : Bool) → (e ≡ true → p ≡ q) → (e && p) ≡ (e && q)
and-same true p q h = h refl
and-same false p q h = refl

pub same-scan : (f g : TimeParts → Bool) (o : ObjectId) (m : List Mark) → Starts (λ x. f x ≡ g x) o m → scan f o m ≡ scan g o m
unfolding scan
same-scan f g o [] h = refl
same-scan f g o (Put a x v ∷ m) h =
    let s : Seen = record { place = version_count o m; start = x; value = v } in
    ap (λ b. pick b s (scan f o m)) (and-same (same_object a o) (f x) (g x) (λ e. h.0 (same_object-is a o e)))
    ∙ ap (λ r. pick (same_object a o && g x) s r) (same-scan f g o m h.1)
same-scan f g o (Stretch a x ∷ m) h = same-scan f g o m h
same-scan f g o (Settle s c ∷ m) h = same-scan f g o m h
same-scan f g o (Floor z ∷ m) h = same-scan f g o m h

-- with distinct starts, one start is one version
pub stands-starts : (P : TimeParts → Type 0) (o : ObjectId) (m : List Mark) (q : Seen) → Starts P o m → IsVersion o m q → P q.start
stands-starts P o [] q h s = absurd s
stands-starts P o (Put a x v ∷ m) q h (inl s) = subst (λ z. P z.start) s.1 (h.0 s.0)
stands-starts P o (Put a x v ∷ m) q h (inr s) = stands-starts P o m q h.1 s
stands-starts P o (Stretch a x ∷ m) q h s = stands-starts P o m q h s
stands-starts P o (Settle t c ∷ m) q h s = stands-starts P o m q h s
stands-starts P o (Floor z ∷ m) q h s = stands-starts P o m q h s

clear : (a o : ObjectId) (x : TimeParts) (m : List Mark) (p : Seen) → a ≡ o → Starts (λ y. y ≢ x) a m → IsVersion o m p → p.start ≢ x
clear a o x m p e h s = stands-starts (λ y. y ≢ x) o m p (subst (λ z. Starts (λ y. y ≢ x) z m) e h) s

pub one-version : (o : ObjectId) (m : List Mark) (p q : Seen) → Distinct m → IsVersion o m p → IsVersion o m q → p.start ≡ q.start → p ≡ q
one-version o [] p q d s t e = absurd s
one-version o (Put a x v ∷ m) p q d (inl s) (inl t) e = sym s.1 ∙ t.1
one-version o (Put a x v ∷ m) p q d (inl s) (inr t) e = absurd (clear a o x m q s.0 d.0 t (sym e ∙ sym (ap (λ z. z.start) s.1)))
one-version o (Put a x v ∷ m) p q d (inr s) (inl t) e = absurd (clear a o x m p t.0 d.0 s (e ∙ sym (ap (λ z. z.start) t.1)))
one-version o (Put a x v ∷ m) p q d (inr s) (inr t) e = one-version o m p q d.1 s t e
one-version o (Stretch a x ∷ m) p q d s t e = one-version o m p q d s t e
one-version o (Settle u c ∷ m) p q d s t e = one-version o m p q d s t e
one-version o (Floor z ∷ m) p q d s t e = one-version o m p q d s t e

-- ---- what fitting marks leave as it was

pub settled-kept : (m : List Mark) (f : Mark) (s : StampParts) (c : Bool) → settle_of m s ≡ Some c → settle_of (f ∷ m) s ≡ Some c
unfolding settle_of
settled-kept m (Put o x v) s c h = h
settled-kept m (Stretch o x) s c h = h
settled-kept m (Settle t d) s c h = settled-stays m t s d c h
settled-kept m (Floor z) s c h = h

-- an accepted write lies above every version that isn't dead
pub puts-below : (m : List Mark) (o : ObjectId) (x : TimeParts) (v : Value) → write_step m o x v ≡ write.Put → Starts (λ y. alive m y ≡ true → lt y x ≡ true) o m
puts-below m o x v h = low-all (λ y. alive m y) o m x (put-says m o x v h).0

ends_is : (x e : TimeParts) (r : Option TimeParts) → Ends r x → r ≡ Some e → lt x e ≡ false
ends_is x e r h k = let P : Option TimeParts → Type 0 = λ z. Ends z x in subst P k h

pub put-reach : (m : List Mark) (o : ObjectId) (x : TimeParts) (v : Value) (e : TimeParts) → write_step m o x v ≡ write.Put → reach m o (newest m o) ≡ Some e → lt x e ≡ false
put-reach m o x v e h k = ends_is x e (reach m o (newest m o)) (put-says m o x v h).1 k

-- no version has the start of an accepted write
pub new-start : (m : List Mark) (o : ObjectId) (x : TimeParts) (v : Value) → Fits m (Put o x v) → Starts (λ y. y ≢ x) o m
new-start m o x v fits =
    starts-map (λ y. alive m y ≡ true → lt y x ≡ true) (λ y. y ≢ x) o m
    (λ y h e. true≢false (sym (h (ap (λ z. is_alive (settle_of m z.stamp)) e ∙ ap (λ u. is_alive u) fits.0))
    ∙ ap (λ z. lt z x) e ∙ lt-irreflexive x))
    (low-all (λ y. alive m y) o m x (put-says m o x v fits.1).0)

pub distinct-kept : (m : List Mark) (f : Mark) → Fits m f → Distinct m → Distinct (f ∷ m)
distinct-kept m (Put o x v) fits d = (new-start m o x v fits, d)
distinct-kept m (Stretch o x) fits d = d
distinct-kept m (Settle s c) fits d = d
distinct-kept m (Floor z) fits d = absurd fits

pub stands-has : (o : ObjectId) (m : List Mark) (q : Seen) → IsVersion o m q → Has (Put o q.start q.value) m
stands-has o [] q s = absurd s
stands-has o (Put a x v ∷ m) q (inl s) = inl (ap (λ z. Put z x v) s.0 ∙ ap (λ z. Put o z.start z.value) s.1)
stands-has o (Put a x v ∷ m) q (inr s) = inr (stands-has o m q s)
stands-has o (Stretch a x ∷ m) q s = inr (stands-has o m q s)
stands-has o (Settle t c ∷ m) q s = inr (stands-has o m q s)
stands-has o (Floor z ∷ m) q s = inr (stands-has o m q s)
