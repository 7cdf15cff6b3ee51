-- Puts among marks, and those that a scan finds.
use Rattle.serial_law.proofs.Names.{Has, TimeParts, ObjectId, Value, Mark, Put, Stretch, Seen, scan, Starts, AtMost, ◌≡◌, Bool, true, List, [], ◌∷◌, refl, ◌∙◌, ap, subst, Option, Some, None, inl, inr, ◌⊎◌, IsVersion}
use Rattle.object_history.proofs.ScanLemmas.{Standing, standing}

-- the object's put with this start and value stands among the marks
abbrev pub PutAt : ObjectId → TimeParts → Value → List Mark → Type 0
PutAt o x w [] = ⊥
PutAt o x w (Put a y v ∷ m) = ((a ≡ o) × (y ≡ x) × (v ≡ w)) ⊎ PutAt o x w m
PutAt o x w (_ ∷ m) = PutAt o x w m

-- the same, as a member of the list
pub put-stands : (m : List Mark) (o : ObjectId) (x : TimeParts) (v : Value) → Has (Put o x v) m → PutAt o x v m
put-stands [] o x v h = h
put-stands (Put a y w ∷ m) o x v (inl e) = let p : a ≡ o = cc e in let q : y ≡ x = cc e in let u : w ≡ v = cc e in inl (p, q, u)
put-stands (Put a y w ∷ m) o x v (inr h) = inr (put-stands m o x v h)
put-stands (_ ∷ m) o x v (inl e) = absurd (cc e)
put-stands (_ ∷ m) o x v (inr h) = put-stands m o x v h

pub stands-put : (m : List Mark) (o : ObjectId) (x : TimeParts) (v : Value) → PutAt o x v m → Has (Put o x v) m
stands-put [] o x v h = h
stands-put (Put a y w ∷ m) o x v (inl h) = inl (ap (λ z. Put z y w) h.0 ∙ ap (λ z. Put o z w) h.1 ∙ ap (λ z. Put o x z) h.2)
stands-put (Put a y w ∷ m) o x v (inr h) = inr (stands-put m o x v h)
stands-put (Stretch a y ∷ m) o x v h = inr (stands-put m o x v h)
stands-put (_ ∷ m) o x v h = inr (stands-put m o x v h)

-- a fact of each put, as a fact of each start
pub starts-of : (P : TimeParts → Type 0) (o : ObjectId) (m : List Mark) → ((x : TimeParts) (v : Value) → PutAt o x v m → P x) → Starts P o m
starts-of P o [] h = tt
starts-of P o (Put a x v ∷ m) h = (λ e. h x v (inl (e, refl, refl)), starts-of P o m (λ y w k. h y w (inr k)))
starts-of P o (_ ∷ m) h = starts-of P o m h

-- and back
pub starts-at : (P : TimeParts → Type 0) (o : ObjectId) (x : TimeParts) (w : Value) (m : List Mark) → Starts P o m → PutAt o x w m → P x
starts-at P o x w [] h j = absurd j
starts-at P o x w (Put a y v ∷ m) h (inl j) = subst P j.1 (h.0 j.0)
starts-at P o x w (Put a y v ∷ m) h (inr j) = starts-at P o x w m h.1 j
starts-at P o x w (Stretch a y ∷ m) h j = starts-at P o x w m h j
starts-at P o x w (_ ∷ m) h j = starts-at P o x w m h j

put-of : (o : ObjectId) (m : List Mark) (q : Seen) → IsVersion o m q → PutAt o q.start q.value m
put-of o [] q s = absurd s
put-of o (Put a x v ∷ m) q (inl s) = inl (s.0, ap (λ (z : Seen). z.start) s.1, ap (λ (z : Seen). z.value) s.1)
put-of o (Put a x v ∷ m) q (inr s) = inr (put-of o m q s)
put-of o (Stretch a x ∷ m) q s = put-of o m q s
put-of o (_ ∷ m) q s = put-of o m q s

-- what is picked is a put
unfoldable pub Picked : ObjectId → List Mark → Option Seen → Type 0
Picked o m None = Unit {0}
Picked o m (Some q) = PutAt o q.start q.value m

picked-of : (o : ObjectId) (m : List Mark) (r : Option Seen) → Standing o m r → Picked o m r
unfolding Picked
picked-of o m None s = tt
picked-of o m (Some q) s = put-of o m q s

pub picked : (ok : TimeParts → Bool) (o : ObjectId) (m : List Mark) → Picked o m (scan ok o m)
picked ok o m = picked-of o m (scan ok o m) (standing ok o m)

-- a put that passes is at most the pick
pub at-most : (ok : TimeParts → Bool) (o : ObjectId) (x : TimeParts) (w : Value) (m : List Mark) (r : Option Seen) →
    Starts (λ y. ok y ≡ true → AtMost r y) o m → PutAt o x w m → ok x ≡ true → AtMost r x
at-most ok o x w m r h j k = starts-at (λ y. ok y ≡ true → AtMost r y) o x w m h j k
