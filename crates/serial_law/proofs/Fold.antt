-- the fold left_after committed stamps
use Rattle.serial_law.proofs.Names.{TimeParts, StampParts, ObjectId, Value, Mark, left_after, Seen, scan, lt, same_stamp, stamp_lt, Answer, Stored, asks, at, HasValue, Tree, after, Objects, value_at, scan-passes, starts-all, two-tests, top-all, AtMost, Passes, Starts, lt-stamps, same_stamp-is, same_stamp-of, ◌≡◌, ◌≢◌, ◌+◌, ◌≤◌, length, Bool, true, false, List, ◌∷◌, refl, sym, ◌∙◌, ap, subst, Option, Some, None, ◌⊎◌, inl, inr, arith, true≢false}
use Rattle.serial_law.proofs.Own.{Kinds, NoneWritten, LastWritten, own-map, fronts, same-value}
use Rattle.serial_law.proofs.Lone.{Lone}
use Rattle.serial_law.proofs.Puts.{Picked, PutAt, at-most, picked}
use Rattle.serial_law.proofs.Times.{inside-low, stamp-no}

-- a test on stamps, at a start
abbrev pub on : (StampParts → Bool) → TimeParts → Bool
on g x = g x.stamp

-- the map holds, of each object, the put with the greatest start whose stamp passes
abbrev pub Holds : (ObjectId → List Mark) → (StampParts → Bool) → Objects → Type 0
Holds marks g m = (o : ObjectId) → HasValue (scan (on g) o (marks o)) (value_at m o)

abbrev pub Deed_at : Option Seen → Value → Value → Type 0
Deed_at None old new = new ≡ old
Deed_at (Some q) old new = new ≡ q.value

-- the deed of a stamp sets, of each object, the last of its puts
abbrev pub Deed : (ObjectId → List Mark) → StampParts → Objects → Objects → Type 0
Deed marks s m n = (o : ObjectId) → Deed_at (scan (on (λ x. same_stamp x s)) o (marks o)) (value_at m o) (value_at n o)

-- the stamps allowed grow from f to h by exactly s, which is above all of f
pub record Grows (f h : StampParts → Bool) (s : StampParts) : Type 0 where
  pub low : (x : StampParts) → f x ≡ true → stamp_lt x s ≡ true
  pub more : (x : StampParts) → f x ≡ true → h x ≡ true
  pub one : h s ≡ true
  pub only : (x : StampParts) → h x ≡ true → x ≢ s → f x ≡ true

-- with a put of s: the greatest of the larger test is of s
top-is-s : (f h : StampParts → Bool) (s : StampParts) → Grows f h s → (r : Option Seen) (q : Seen) → q.start.stamp ≡ s → AtMost r q.start → Passes (on h) r → Passes (on (λ x. same_stamp x s)) r
top-is-s f h s g None q e a p = tt
top-is-s f h s g (Some r) q e a p = cases (same_stamp r.start.stamp s) refl
  where
    cases : (b : Bool) → same_stamp r.start.stamp s ≡ b → same_stamp r.start.stamp s ≡ true
    cases true k = k
    cases false k = absurd (true≢false (sym (lt-stamps r.start q.start (subst (λ z. stamp_lt r.start.stamp z ≡ true) (sym e) (g.low r.start.stamp (g.only r.start.stamp p (stamp-no r.start.stamp s k))))) ∙ a))

-- without one: the greatest of the larger test passes the smaller
top-is-f : (f h : StampParts → Bool) (s : StampParts) (o : ObjectId) (m : List Mark) → Grows f h s → Starts (λ y. same_stamp y.stamp s ≡ true → ⊥) o m →
    (r : Option Seen) → Picked o m r → Passes (on h) r → Passes (on f) r
unfolding Picked
top-is-f f h s o m g none None st p = tt
top-is-f f h s o m g none (Some r) st p = g.only r.start.stamp p (λ e. at-most (λ y. same_stamp y.stamp s) o r.start r.value m None none st (same_stamp-of r.start.stamp s e))

value-of : (r : Option Seen) (q : Seen) (v : Value) → r ≡ Some q → v ≡ q.value → HasValue r v
value-of None q v e h = absurd (cc e)
value-of (Some r) q v e h = let same : r ≡ q = cc e in h ∙ ap (λ z. z.value) (sym same)

fold-one : (marks : ObjectId → List Mark) (f h : StampParts → Bool) (s : StampParts) → Grows f h s → (m n : Objects) → Deed marks s m n → Holds marks f m →
    (o : ObjectId) (r : Option Seen) → scan (on (λ x. same_stamp x s)) o (marks o) ≡ r → HasValue (scan (on h) o (marks o)) (value_at n o)
fold-one marks f h s g m n deed holds o None e =
    let none : Starts (λ y. same_stamp y.stamp s ≡ true → ⊥) o (marks o) =
    (let P : Option Seen → Type 0 = λ r. Starts (λ y. same_stamp y.stamp s ≡ true → AtMost r y) o (marks o) in
    subst P e (top-all (on (λ x. same_stamp x s)) o (marks o))) in
    let same : scan (on f) o (marks o) ≡ scan (on h) o (marks o) =
    two-tests (on h) (on f) o (marks o) (starts-all (λ x. on f x ≡ true → on h x ≡ true) o (marks o) (λ x k. g.more x.stamp k))
    (top-is-f f h s o (marks o) g none (scan (on h) o (marks o)) (picked (on h) o (marks o)) (scan-passes (on h) o (marks o))) in
    let kept : value_at n o ≡ value_at m o = subst (λ r. Deed_at r (value_at m o) (value_at n o)) e (deed o) in
    subst (λ r. HasValue r (value_at n o)) same (subst (λ v. HasValue (scan (on f) o (marks o)) v) (sym kept) (holds o))
fold-one marks f h s g m n deed holds o (Some q) e =
    let own : q.start.stamp ≡ s = same_stamp-is q.start.stamp s (subst (λ r. Passes (on (λ x. same_stamp x s)) r) e (scan-passes (on (λ x. same_stamp x s)) o (marks o))) in
    let put : PutAt o q.start q.value (marks o) = unfold Picked in subst (λ r. Picked o (marks o) r) e (picked (on (λ x. same_stamp x s)) o (marks o)) in
    let ok : on h q.start ≡ true = subst (λ z. h z ≡ true) (sym own) g.one in
    let same : scan (on (λ x. same_stamp x s)) o (marks o) ≡ scan (on h) o (marks o) =
    two-tests (on h) (on (λ x. same_stamp x s)) o (marks o)
    (starts-all (λ x. same_stamp x.stamp s ≡ true → on h x ≡ true) o (marks o) (λ x k. subst (λ z. h z ≡ true) (sym (same_stamp-is x.stamp s k)) g.one))
    (top-is-s f h s g (scan (on h) o (marks o)) q own
    (at-most (on h) o q.start q.value (marks o) (scan (on h) o (marks o)) (top-all (on h) o (marks o)) put ok)
    (scan-passes (on h) o (marks o))) in
    let now : value_at n o ≡ q.value = subst (λ r. Deed_at r (value_at m o) (value_at n o)) e (deed o) in
    value-of (scan (on h) o (marks o)) q (value_at n o) (sym same ∙ e) now

-- one step of the fold
pub fold-step : (marks : ObjectId → List Mark) (f h : StampParts → Bool) (s : StampParts) → Grows f h s → (m n : Objects) → Deed marks s m n → Holds marks f m → Holds marks h n
fold-step marks f h s g m n deed holds o = fold-one marks f h s g m n deed holds o (scan (on (λ x. same_stamp x s)) o (marks o)) refl

deed-one : (t : Tree) (ans : List Answer) (s : StampParts) (marks : ObjectId → List Mark) (sure : StampParts → Bool) → Lone t ans s marks sure →
    ((o : ObjectId) (x : TimeParts) (w : Value) → PutAt o x w (marks o) → x.stamp ≡ s → x.step ≤ length ans) → (old new : Value) (o : ObjectId) →
    ((pre : List Answer) × (w : Value) × LastWritten t ans o pre w × (new ≡ w)) ⊎ (NoneWritten t ans o × (new ≡ old)) →
    (r : Option Seen) → Picked o (marks o) r → Passes (on (λ x. same_stamp x s)) r → Starts (λ y. same_stamp y.stamp s ≡ true → AtMost r y) o (marks o) →
    Deed_at r old new
unfolding Picked
deed-one t ans s marks sure f whole old new o (inl k) None st pas top = absurd (at-most (λ y. same_stamp y.stamp s) o (at s k.0) k.1 (marks o) None top (f.stored o k.1 k.0 k.2.0) (same_stamp-of s s refl))
deed-one t ans s marks sure f whole old new o (inl k) (Some q) st pas top =
    let own : q.start.stamp ≡ s = same_stamp-is q.start.stamp s pas in
    let am : lt q.start (at s k.0) ≡ false =
    at-most (λ y. same_stamp y.stamp s) o (at s k.0) k.1 (marks o) (Some q) top (f.stored o k.1 k.0 k.2.0) (same_stamp-of s s refl) in
    let w = f.puts o q.start q.value st own (whole o q.start q.value st own) in
    let eq : w.0 ≡ k.0 = fronts w.0 k.0 (Stored ∷ w.2.0.0) (Stored ∷ k.2.0.0.0) (sym w.2.0.1 ∙ k.2.0.0.1) (omega (arith, inside-low q.start s (length k.0 + 1) am own, k.2.1 w.0 q.value w.2, w.1)) in
    k.3 ∙ sym (same-value o q.value k.1 (sym w.2.1 ∙ ap (λ x. asks (after t x)) eq ∙ k.2.0.1))
deed-one t ans s marks sure f whole old new o (inr k) None st pas top = k.1
deed-one t ans s marks sure f whole old new o (inr k) (Some q) st pas top =
    let own : q.start.stamp ≡ s = same_stamp-is q.start.stamp s pas in
    let w = f.puts o q.start q.value st own (whole o q.start q.value st own) in
    absurd (k.0 w.0 q.value w.2)

-- the deed of a whole try
pub own-deed : (t : Tree) (ans : List Answer) (s : StampParts) (marks : ObjectId → List Mark) (sure : StampParts → Bool) → Lone t ans s marks sure →
    ((o : ObjectId) (x : TimeParts) (w : Value) → PutAt o x w (marks o) → x.stamp ≡ s → x.step ≤ length ans) → Kinds t ans → (m : Objects) →
    Deed marks s m (left_after t ans m)
own-deed t ans s marks sure f whole kinds m o =
    deed-one t ans s marks sure f whole (value_at m o) (value_at (left_after t ans m) o) o (own-map t ans m o kinds)
    (scan (on (λ x. same_stamp x s)) o (marks o)) (picked (on (λ x. same_stamp x s)) o (marks o)) (scan-passes (on (λ x. same_stamp x s)) o (marks o))
    (top-all (on (λ x. same_stamp x s)) o (marks o))
