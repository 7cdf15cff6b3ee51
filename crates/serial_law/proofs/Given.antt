-- Given writes, set in the order of their starts, leave what a deed of their stamp leaves.
use Rattle.serial_law.proofs.Names.{TimeParts, StampParts, ObjectId, Value, Mark, Put, Stretch, Post, Seen, scan, same_object, Distinct, lt, same_stamp, RunLogs, Version, in_run, log_of, marks_at, put_in, puts_of, puts_to, written, RunFacts, marks, Objects, value_at, same_object-is, same_object-of, scan-passes, top-all, AtMost, Passes, Starts, lt-total, same_stamp-is, same_stamp-of, ◌≡◌, ◌≢◌, ℕ, ◌≤◌, zero, suc, Bool, true, false, List, [], ◌∷◌, refl, sym, ◌∙◌, ap, subst, Option, Some, None, ◌⊎◌, inl, inr, arith, if◌then◌else◌, false≢true, set_all, lt-asymmetric}
use Rattle.serial_law.proofs.LogLemmas.{le-cases, in-low, in-high, in-both, marks-put, marks-in, marks-cases, put-marks}
use Rattle.serial_law.proofs.Fold.{Deed, Deed_at, on}
use Rattle.serial_law.proofs.Premises.{put-at}
use Rattle.serial_law.proofs.Puts.{Picked, PutAt, at-most, picked, starts-at}
use Rattle.serial_law.proofs.Own.{value-insert}
use Rattle.serial_law.proofs.Times.{not-lt-trans}
use Rattle.std.specs.FinMap as finite

-- w is one of the puts
abbrev pub In : List Version → Version → Type 0
In [] w = ⊥
In (p ∷ ps) w = (w ≡ p) ⊎ In ps w

-- no put is after the one that follows it
abbrev pub AllFrom : TimeParts → List Version → Type 0
AllFrom x [] = Unit {0}
AllFrom x (p ∷ ps) = (lt p.start x ≡ false) × AllFrom x ps

abbrev pub Sorted : List Version → Type 0
Sorted [] = Unit {0}
Sorted (p ∷ ps) = AllFrom p.start ps × Sorted ps

-- an insertion has the put and the rest
in-choose : (b : Bool) (w p : Version) (ps qs : List Version) (v : Version) → In (if b then w ∷ p ∷ ps else p ∷ qs) v → (In qs v → (v ≡ w) ⊎ In ps v) → (v ≡ w) ⊎ In (p ∷ ps) v
in-choose false w p ps qs v (inl e) h = inr (inl e)
in-choose false w p ps qs v (inr j) h = elim (h j) [ inl e ↦ inl e | inr i ↦ inr (inr i) ]
in-choose true w p ps qs v (inl e) h = inl e
in-choose true w p ps qs v (inr j) h = inr j

pub in-put : (w : Version) (ps : List Version) (v : Version) → In (put_in w ps) v → (v ≡ w) ⊎ In ps v
unfolding put_in
in-put w [] v (inl e) = inl e
in-put w [] v (inr j) = absurd j
in-put w (p ∷ ps) v j = in-choose (lt w.start p.start) w p ps (put_in w ps) v j (in-put w ps v)

put-first : (b : Bool) (w p : Version) (ps qs : List Version) → In qs w → In (if b then w ∷ p ∷ ps else p ∷ qs) w
put-first true w p ps qs h = inl refl
put-first false w p ps qs h = inr h

pub put-in : (w : Version) (ps : List Version) → In (put_in w ps) w
unfolding put_in
put-in w [] = inl refl
put-in w (p ∷ ps) = put-first (lt w.start p.start) w p ps (put_in w ps) (put-in w ps)

put-rest : (b : Bool) (w p : Version) (ps qs : List Version) (v : Version) → In (p ∷ ps) v → (In ps v → In qs v) → In (if b then w ∷ p ∷ ps else p ∷ qs) v
put-rest false w p ps qs v (inl e) h = inl e
put-rest false w p ps qs v (inr j) h = inr (h j)
put-rest true w p ps qs v j h = inr j

pub put-old : (w : Version) (ps : List Version) (v : Version) → In ps v → In (put_in w ps) v
unfolding put_in
put-old w [] v j = absurd j
put-old w (p ∷ ps) v j = put-rest (lt w.start p.start) w p ps (put_in w ps) v j (put-old w ps v)

-- an insertion keeps the order
from-of : (x : TimeParts) (ps : List Version) → ((v : Version) → In ps v → lt v.start x ≡ false) → AllFrom x ps
from-of x [] h = tt
from-of x (p ∷ ps) h = (h p (inl refl), from-of x ps (λ v j. h v (inr j)))

pub from-is : (x : TimeParts) (ps : List Version) (v : Version) → AllFrom x ps → In ps v → lt v.start x ≡ false
from-is x (p ∷ ps) v h (inl e) = ap (λ z. lt z.start x) e ∙ h.0
from-is x (p ∷ ps) v h (inr j) = from-is x ps v h.1 j
from-is x [] v h j = absurd j

from-put : (x : TimeParts) (w : Version) (ps : List Version) → AllFrom x ps → lt w.start x ≡ false → AllFrom x (put_in w ps)
from-put x w ps h k = from-of x (put_in w ps) (λ v j. elim (in-put w ps v j) [ inl e ↦ ap (λ z. lt z.start x) e ∙ k | inr i ↦ from-is x ps v h i ])

sorted-one : (b : Bool) (w p : Version) (ps : List Version) → lt w.start p.start ≡ b → Sorted (p ∷ ps) → Sorted (put_in w ps) → Sorted (if b then w ∷ p ∷ ps else p ∷ put_in w ps)
sorted-one false w p ps e h k = (from-put p.start w ps h.0 e, k)
sorted-one true w p ps e h k =
    let not : lt p.start w.start ≡ false = lt-asymmetric w.start p.start e in
    ((not, from-of w.start ps (λ v j. not-lt-trans v.start p.start w.start (from-is p.start ps v h.0 j) not)), h)

pub sorted-put : (w : Version) (ps : List Version) → Sorted ps → Sorted (put_in w ps)
unfolding put_in
sorted-put w [] h = (tt, tt)
sorted-put w (p ∷ ps) h = sorted-one (lt w.start p.start) w p ps refl h (sorted-put w ps h.1)

sorted-if : (b : Bool) (w : Version) (ps : List Version) → Sorted ps → Sorted (if b then put_in w ps else ps)
sorted-if true w ps h = sorted-put w ps h
sorted-if false w ps h = h

sorted-of : (s : StampParts) (m : List Mark) (ps : List Version) → Sorted ps → Sorted (puts_of s m ps)
unfolding puts_of
sorted-of s [] ps h = h
sorted-of s (Put o x v ∷ m) ps h = sorted-if (same_stamp x.stamp s) (record { object = o; start = x; value = v }) (puts_of s m ps) (sorted-of s m ps h)
sorted-of s (_ ∷ m) ps h = sorted-of s m ps h

pub sorted-to : (k : RunLogs) (s : StampParts) (n : ℕ) → Sorted (puts_to k s n)
unfolding puts_to
sorted-to k s zero = tt
sorted-to k s (suc n) = sorted-of s (marks (log_of k (suc n))) (puts_to k s n) (sorted-to k s n)

-- a put of these marks with this stamp
abbrev pub Of : StampParts → List Mark → Version → Type 0
Of s m v = PutAt v.object v.start v.value m × (v.start.stamp ≡ s)

of-if : (b : Bool) (s : StampParts) (o : ObjectId) (x : TimeParts) (w : Value) (m : List Mark) (ps qs : List Version) (v : Version) → same_stamp x.stamp s ≡ b →
    In (if b then put_in (record { object = o; start = x; value = w }) qs else qs) v → (In qs v → Of s m v ⊎ In ps v) → Of s (Put o x w ∷ m) v ⊎ In ps v
of-if true s o x w m ps qs v e j h =
    elim (in-put (record { object = o; start = x; value = w }) qs v j) [
      | inl p ↦ inl (inl (ap (λ z. z.object) (sym p), ap (λ z. z.start) (sym p), ap (λ z. z.value) (sym p)), ap (λ z. z.start.stamp) p ∙ same_stamp-is x.stamp s e)
      | inr i ↦ elim (h i) [ inl k ↦ inl (inr k.0, k.1) | inr k ↦ inr k ]
    ]
of-if false s o x w m ps qs v e j h = elim (h j) [ inl k ↦ inl (inr k.0, k.1) | inr k ↦ inr k ]

pub in-of : (s : StampParts) (m : List Mark) (ps : List Version) (v : Version) → In (puts_of s m ps) v → Of s m v ⊎ In ps v
unfolding puts_of
in-of s [] ps v j = inr j
in-of s (Put o x w ∷ m) ps v j = of-if (same_stamp x.stamp s) s o x w m ps (puts_of s m ps) v refl j (in-of s m ps v)
in-of s (_ ∷ m) ps v j = in-of s m ps v j

old-if : (b : Bool) (w : Version) (qs : List Version) (v : Version) → In qs v → In (if b then put_in w qs else qs) v
old-if true w qs v j = put-old w qs v j
old-if false w qs v j = j

old-of : (s : StampParts) (m : List Mark) (ps : List Version) (v : Version) → In ps v → In (puts_of s m ps) v
unfolding puts_of
old-of s [] ps v j = j
old-of s (Put o x w ∷ m) ps v j = old-if (same_stamp x.stamp s) (record { object = o; start = x; value = w }) (puts_of s m ps) v (old-of s m ps v j)
old-of s (_ ∷ m) ps v j = old-of s m ps v j

new-if : (b : Bool) (w : Version) (qs : List Version) → b ≡ true → In (if b then put_in w qs else qs) w
new-if true w qs h = put-in w qs
new-if false w qs h = absurd (false≢true h)

pub version-path : (o p : ObjectId) (x y : TimeParts) (v w : Value) → o ≡ p → x ≡ y → v ≡ w →
    (let a : Version = record { object = o; start = x; value = v } in
    let b : Version = record { object = p; start = y; value = w } in a ≡ b)
version-path o p x y v w e f g = λ i. record { object = e i; start = f i; value = g i }

of-in : (s : StampParts) (m : List Mark) (ps : List Version) (o : ObjectId) (x : TimeParts) (v : Value) → PutAt o x v m → x.stamp ≡ s →
    In (puts_of s m ps) (record { object = o; start = x; value = v })
unfolding puts_of
of-in s [] ps o x v h e = absurd h
of-in s (Put a y w ∷ m) ps o x v (inl h) e =
    subst (λ z. In (if same_stamp y.stamp s then put_in (record { object = a; start = y; value = w }) (puts_of s m ps) else puts_of s m ps) z)
    (version-path a o y x w v h.0 h.1 h.2)
    (new-if (same_stamp y.stamp s) (record { object = a; start = y; value = w }) (puts_of s m ps) (same_stamp-of y.stamp s (ap (λ z. z.stamp) h.1 ∙ e)))
of-in s (Put a y w ∷ m) ps o x v (inr h) e = old-if (same_stamp y.stamp s) (record { object = a; start = y; value = w }) (puts_of s m ps) (record { object = o; start = x; value = v }) (of-in s m ps o x v h e)
of-in s (Stretch a y ∷ m) ps o x v h e = of-in s m ps o x v h e
of-in s (_ ∷ m) ps o x v h e = of-in s m ps o x v h e

pub in-to : (k : RunLogs) (s : StampParts) (n : ℕ) (v : Version) → In (puts_to k s n) v → (r : ℕ) × (1 ≤ r) × (r ≤ n) × Of s (marks (log_of k r)) v
unfolding puts_to
in-to k s zero v j = absurd j
in-to k s (suc n) v j =
    elim (in-of s (marks (log_of k (suc n))) (puts_to k s n) v j) [
      | inl h ↦ (suc n, omega arith, omega arith, h)
      | inr h ↦ let w = in-to k s n v h in (w.0, w.1, (let le = w.2 in omega (arith, le)), w.3)
    ]

pub to-in : (k : RunLogs) (s : StampParts) (n r : ℕ) (o : ObjectId) (x : TimeParts) (v : Value) → 1 ≤ r → r ≤ n → PutAt o x v (marks (log_of k r)) → x.stamp ≡ s →
    In (puts_to k s n) (record { object = o; start = x; value = v })
unfolding puts_to
to-in k s zero r o x v h j p e = absurd (omega (arith, h, j))
to-in k s (suc n) r o x v h j p e =
    elim (le-cases r n j) [
      | inl q ↦ of-in s (marks (log_of k (suc n))) (puts_to k s n) o x v (subst (λ z. PutAt o x v (marks (log_of k z))) q p) e
      | inr q ↦ old-of s (marks (log_of k (suc n))) (puts_to k s n) (record { object = o; start = x; value = v }) (to-in k s n r o x v h q p e)
    ]

-- the list of a stamp's puts has what picked at their objects, and nothing else
pub written-at : (k : RunLogs) (ever : List Post) → RunFacts k ever → (s : StampParts) (v : Version) → In (written k s) v → Of s (marks_at k v.object) v
written-at k ever f s v j =
    let w = in-to k s k.repositories v j in
    let here : in_run k w.0 ≡ true = in-both k w.0 w.1 w.2 in
    let home = f.put w.0 v.object v.start v.value here (marks-put (log_of k w.0) v.object v.start v.value w.3.0) in (
      subst (λ m. PutAt v.object v.start v.value m) (marks-in k v.object (ap (λ r. in_run k r) home.0 ∙ here))
          (subst (λ r. PutAt v.object v.start v.value (marks (log_of k r))) (sym home.0) w.3.0),
      w.3.1,
    )

pub at-written : (k : RunLogs) (s : StampParts) (o : ObjectId) (x : TimeParts) (v : Value) → PutAt o x v (marks_at k o) → x.stamp ≡ s → In (written k s) (record { object = o; start = x; value = v })
at-written k s o x v h e =
    let w = put-at k o x v h in
    to-in k s k.repositories o.repository o x v (in-low k o.repository w.0) (in-high k o.repository w.0) (put-marks (log_of k o.repository) o x v w.1) e

-- of puts that are set in order the last one of an object counts
kept-one : (ws : List Version) (m : Objects) (o : ObjectId) (v : Value) → ((u : Version) → In ws u → u.object ≡ o → u.value ≡ v) → value_at m o ≡ v → value_at (set_all ws m) o ≡ v
kept-one [] m o v h e = e
kept-one (p ∷ ps) m o v h e =
    kept-one ps (finite.insert m p.object p.value) o v (λ u j. h u (inr j)) (value-insert m p.object o p.value ∙ now (same_object o p.object) refl)
  where
    now : (b : Bool) → same_object o p.object ≡ b → (if b then p.value else value_at m o) ≡ v
    now true q = h p (inl refl) (sym (same_object-is o p.object q))
    now false q = e

last-one : (ws : List Version) (m : Objects) (o : ObjectId) (x : TimeParts) (v : Value) → Sorted ws → In ws (record { object = o; start = x; value = v }) →
    ((u : Version) → In ws u → u.object ≡ o → lt x u.start ≡ false) → ((u : Version) → In ws u → u.object ≡ o → u.start ≡ x → u.value ≡ v) →
    value_at (set_all ws m) o ≡ v
last-one [] m o x v s j h g = absurd j
last-one (p ∷ ps) m o x v s (inr j) h g = last-one ps (finite.insert m p.object p.value) o x v s.1 j (λ u i. h u (inr i)) (λ u i. g u (inr i))
last-one (p ∷ ps) m o x v s (inl e) h g =
    kept-one ps (finite.insert m p.object p.value) o v
    (λ u i q. g u (inr i) q (lt-total u.start x (ap (λ z. lt u.start z) (ap (λ z. z.start) e) ∙ from-is p.start ps u s.0 i) (h u (inr i) q)))
    (value-insert m p.object o p.value ∙ now (same_object o p.object) refl)
  where
    now : (b : Bool) → same_object o p.object ≡ b → (if b then p.value else value_at m o) ≡ v
    now true q = ap (λ z. z.value) (sym e)
    now false q = absurd (false≢true (sym q ∙ same_object-of o p.object (ap (λ (z : Version). z.object) e)))

pub one-value : (m : List Mark) (o : ObjectId) (x : TimeParts) (v w : Value) → Distinct m → PutAt o x v m → PutAt o x w m → v ≡ w
one-value [] o x v w d h j = absurd h
one-value (Put a y u ∷ m) o x v w d (inl h) (inl j) = sym h.2 ∙ j.2
one-value (Put a y u ∷ m) o x v w d (inl h) (inr j) = absurd (starts-at (λ z. z ≢ y) a y w m d.0 (moved h.0 h.1 j) refl)
  where
    moved : a ≡ o → y ≡ x → PutAt o x w m → PutAt a y w m
    moved e f p = subst (λ z. PutAt z y w m) (sym e) (subst (λ z. PutAt o z w m) (sym f) p)
one-value (Put a y u ∷ m) o x v w d (inr h) (inl j) = absurd (starts-at (λ z. z ≢ y) a y v m d.0 (moved j.0 j.1 h) refl)
  where
    moved : a ≡ o → y ≡ x → PutAt o x v m → PutAt a y v m
    moved e f p = subst (λ z. PutAt z y v m) (sym e) (subst (λ z. PutAt o z v m) (sym f) p)
one-value (Put a y u ∷ m) o x v w d (inr h) (inr j) = one-value m o x v w d.1 h j
one-value (Stretch a y ∷ m) o x v w d h j = one-value m o x v w d h j
one-value (_ ∷ m) o x v w d h j = one-value m o x v w d h j

pub distinct-at : (k : RunLogs) (ever : List Post) → RunFacts k ever → (o : ObjectId) → Distinct (marks_at k o)
distinct-at k ever f o = marks-cases k o (λ m. Distinct m) (λ i. f.distinct o.repository i) tt

-- a listed put of the object, at its marks
listed : (k : RunLogs) (ever : List Post) → RunFacts k ever → (s : StampParts) (u : Version) → In (written k s) u → (o : ObjectId) → u.object ≡ o →
    PutAt o u.start u.value (marks_at k o) × (u.start.stamp ≡ s)
listed k ever f s u j o e = let w = written-at k ever f s u j in (subst (λ p. PutAt p u.start u.value (marks_at k p)) e w.0, w.1)

given-one : (k : RunLogs) (ever : List Post) → RunFacts k ever → (s : StampParts) (m : Objects) (o : ObjectId) (r : Option Seen) → Picked o (marks_at k o) r →
    Passes (on (λ x. same_stamp x s)) r → Starts (λ y. same_stamp y.stamp s ≡ true → AtMost r y) o (marks_at k o) →
    Deed_at r (value_at m o) (value_at (set_all (written k s) m) o)
unfolding Picked
given-one k ever f s m o None st pas top =
    kept-one (written k s) m o (value_at m o)
    (λ u j e. let w = listed k ever f s u j o e in
    absurd (at-most (λ y. same_stamp y.stamp s) o u.start u.value (marks_at k o) None top w.0 (same_stamp-of u.start.stamp s w.1))) refl
given-one k ever f s m o (Some q) st pas top =
    last-one (written k s) m o q.start q.value (sorted-to k s k.repositories) (at-written k s o q.start q.value st (same_stamp-is q.start.stamp s pas))
    (λ u j e. let w = listed k ever f s u j o e in
    at-most (λ y. same_stamp y.stamp s) o u.start u.value (marks_at k o) (Some q) top w.0 (same_stamp-of u.start.stamp s w.1))
    (λ u j e x. let w = listed k ever f s u j o e in
    one-value (marks_at k o) o q.start u.value q.value (distinct-at k ever f o) (subst (λ z. PutAt o z u.value (marks_at k o)) x w.0) st)

-- the deed of given writes
pub given-deed : (k : RunLogs) (ever : List Post) → RunFacts k ever → (s : StampParts) (m : Objects) → Deed (marks_at k) s m (set_all (written k s) m)
given-deed k ever f s m o =
    given-one k ever f s m o (scan (on (λ x. same_stamp x s)) o (marks_at k o)) (picked (on (λ x. same_stamp x s)) o (marks_at k o))
    (scan-passes (on (λ x. same_stamp x s)) o (marks_at k o)) (top-all (on (λ x. same_stamp x s)) o (marks_at k o))
