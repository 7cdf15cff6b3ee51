-- What the answers of reads and writes say.
use Rattle.object_history.proofs.Names.{StampParts, TimeParts, ObjectId, Value, Mark, Put, Stretch, Settle, Floor, same_stamp, same_time, lt, same_object, same_value, Seen, settle_of, is_alive, is_settled, is_committed, alive, scan, sees, newest, place_of, same_place, top, stretched, floor_of, latest, reach, some_put, is_over, settled_over, needs_stretch, Starts, HasPut, views, Covers, Firm, Shut, value_of, Viewed, same_stamp-is, same_time-is, lt-trans, lt-irreflexive, Nothing, Answer, Wait, LaterRead, WriteStep, read_seen, read_from, read_step, write_reach, write_newest, write_step, stands_written, has_put, Has, ℕ, ◌≡◌, ◌≢◌, Bool, true, false, List, [], ◌∷◌, refl, sym, ◌∙◌, ap, subst, Option, Some, None, ◌&&◌, ◌||◌, not, if◌then◌else◌, ◌⊎◌, inl, inr, false≢true, true≢false, is_above, IsOnFloor, after_read}
use Rattle.object_history.proofs.Words.{Passes, AtMost}
use Rattle.object_history.proofs.BoolLemmas.{and-both, and-left, and-right}
use Rattle.object_history.proofs.ObjectLemmas.{eqb-yes, same_object-is, same_object-of}
use Rattle.object_history.specs.declared.steps.WriteStep.TheVariants as write
use Rattle.object_history.proofs.ObjectLemmas.{same_value-is}
use Rattle.object_history.proofs.StableLemmas.{scan-passes}
use Rattle.object_history.proofs.ViewLemmas.{sees-views, settled-true, top-all, has-with, covers-first, covers-rest, covers-read, firm-kept}
use Rattle.object_history.proofs.ScanLemmas.{standing, Standing, stands-has}

-- ---- an answered read is viewed

-- what is seen is the reader's own, or known
abbrev Answered : List Mark → TimeParts → Option Seen → Type 0
Answered m t None = Unit {0}
Answered m t (Some q) = (q.start.stamp ≡ t.stamp) ⊎ (settle_of m q.start.stamp ≢ None)

pub same-same : (r : Option ℕ) → same_place r r ≡ true
same-same None = refl
same-same (Some p) = eqb-yes p p refl

owned : (s t : StampParts) (b : Bool) (u : Option Bool) → same_stamp s t ≡ b → (b || is_settled u) ≡ true → (s ≡ t) ⊎ (u ≢ None)
owned s t true u e h = inl (same_stamp-is s t e)
owned s t false None e h = absurd (false≢true h)
owned s t false (Some c) e h = inr (λ k. cc k)

answer-test : (b : Bool) (w v : Value) (n st : Bool) (s : StampParts) → (if b then Answer w n else Wait s) ≡ Answer v st → b ≡ true
answer-test true w v n st s h = refl
answer-test false w v n st s h = absurd (cc h)

answer-value : (b : Bool) (w v : Value) (n st : Bool) (s : StampParts) → (if b then Answer w n else Wait s) ≡ Answer v st → w ≡ v
answer-value true w v n st s h = cc h
answer-value false w v n st s h = absurd (cc h)

answer-stretch : (b : Bool) (w v : Value) (n st : Bool) (s : StampParts) → (if b then Answer w n else Wait s) ≡ Answer v st → n ≡ st
answer-stretch true w v n st s h = cc h
answer-stretch false w v n st s h = absurd (cc h)

read-value : (m : List Mark) (o : ObjectId) (t : TimeParts) (r : Option Seen) (v : Value) (st : Bool) → read_seen m o t r ≡ Answer v st → value_of r ≡ v
read-value m o t None v st h = answer-value true Nothing v _ st t.stamp h
read-value m o t (Some q) v st h = answer-value _ q.value v _ st q.start.stamp h

read-stretch : (m : List Mark) (o : ObjectId) (t : TimeParts) (r : Option Seen) (v : Value) (st : Bool) → read_seen m o t r ≡ Answer v st → needs_stretch m o t r ≡ st
read-stretch m o t None v st h = answer-stretch true Nothing v _ st t.stamp h
read-stretch m o t (Some q) v st h = answer-stretch _ q.value v _ st q.start.stamp h

read-answered : (m : List Mark) (o : ObjectId) (t : TimeParts) (r : Option Seen) (v : Value) (st : Bool) → read_seen m o t r ≡ Answer v st → Answered m t r
read-answered m o t None v st h = tt
read-answered m o t (Some q) v st h =
    owned q.start.stamp t.stamp (same_stamp q.start.stamp t.stamp) (settle_of m q.start.stamp) refl (answer-test _ q.value v _ st q.start.stamp h)

firm-now : (m : List Mark) (t : TimeParts) (r : Option Seen) → Passes (λ x. lt x t && alive m x) r → Answered m t r → Firm m t r
firm-now m t None p a = tt
firm-now m t (Some q) p (inl own) = inl own
firm-now m t (Some q) p (inr set) = inr (settled-true (settle_of m q.start.stamp) set (and-right (lt q.start t) (alive m q.start) p))

pub committed : (u : Option Bool) → is_committed u ≡ true → u ≡ Some true
committed None h = absurd (false≢true h)
committed (Some c) h = ap (λ z. Some z) h

-- a committed put above what is seen is at or above t
over-far : (m : List Mark) (t y : TimeParts) (r : Option Seen) (b : Bool) → lt y t ≡ b → ((lt y t && alive m y) ≡ true → AtMost r y) →
    (is_committed (settle_of m y.stamp) && is_over r y) ≡ true → (settle_of m y.stamp ≡ Some true) × (lt y t ≡ false)
over-far m t y r false e h w = (committed (settle_of m y.stamp) (and-left _ (is_over r y) w), e)
over-far m t y None true e h w =
    absurd (h (and-both (lt y t) (alive m y) e (ap (λ u. is_alive u) (committed (settle_of m y.stamp) (and-left _ true w)))))
over-far m t y (Some q) true e h w =
    absurd (true≢false (sym (and-right (is_committed (settle_of m y.stamp)) (lt q.start y) w)
    ∙ h (and-both (lt y t) (alive m y) e (ap (λ u. is_alive u) (committed (settle_of m y.stamp) (and-left _ (lt q.start y) w))))))

or-cases : (a b : Bool) → (a || b) ≡ true → (a ≡ true) ⊎ (b ≡ true)
or-cases true b h = inl refl
or-cases false b h = inr h

pub some-has : (ok : TimeParts → Bool) (o : ObjectId) (m : List Mark) → some_put ok o m ≡ true → HasPut (λ y. ok y ≡ true) o m
unfolding some_put
some-has ok o [] h = false≢true h
some-has ok o (Put a x v ∷ m) h = elim (or-cases (same_object a o && ok x) (some_put ok o m) h) [
  | inl k ↦ inl (same_object-is a o (and-left (same_object a o) (ok x) k), and-right (same_object a o) (ok x) k)
  | inr k ↦ inr (some-has ok o m k)
]
some-has ok o (Stretch a x ∷ m) h = some-has ok o m h
some-has ok o (Settle s c ∷ m) h = some-has ok o m h
some-has ok o (Floor z ∷ m) h = some-has ok o m h

quiet : (a b : Bool) → (a && not b) ≡ false → (a ≡ false) ⊎ (b ≡ true)
quiet true true h = inr refl
quiet true false h = inl h
quiet false b h = inl refl

not-above : (t : TimeParts) (e : Option TimeParts) → is_above t e ≡ false → Covers e t
not-above t None h = true≢false h
not-above t (Some e) h = h

shut-now : (m : List Mark) (o : ObjectId) (t : TimeParts) (r : Option Seen) → sees m o t ≡ r → needs_stretch m o t r ≡ false → Shut m o t r
shut-now m o t r e h = elim (quiet (is_above t (reach m o r)) (settled_over m o r) h) [
  | inl k ↦ inl (not-above t (reach m o r) k)
  | inr k ↦
      let P : Option Seen → Type 0 = λ q. Starts (λ y. (lt y t && alive m y) ≡ true → AtMost q y) o m in
      inr (has-with (λ y. (lt y t && alive m y) ≡ true → AtMost r y) (λ y. (is_committed (settle_of m y.stamp) && is_over r y) ≡ true)
      (λ y. (settle_of m y.stamp ≡ Some true) × (lt y t ≡ false)) o m
      (λ y g w. over-far m t y r (lt y t) refl g w) (subst P e (top-all (λ y. lt y t && alive m y) o m)) (some-has _ o m k))
]

covers-if : (b : Bool) (t : TimeParts) (e : Option TimeParts) → b ≡ true → Covers (if b then top t e else e) t
covers-if true t e h = covers-first t e t (lt-irreflexive t)
covers-if false t e h = absurd (false≢true h)

reach-now : (m : List Mark) (o : ObjectId) (t : TimeParts) (r : Option Seen) → sees m o t ≡ r → Covers (reach (Stretch o t ∷ m) o r) t
unfolding stretched floor_of
reach-now m o t None e =
    covers-read (floor_of m) _ t (covers-if (same_object o o && same_place (place_of (sees m o t)) None) t (stretched m o None)
    (and-both (same_object o o) _ (same_object-of o o refl) (subst (λ r. same_place (place_of (sees m o t)) (place_of r) ≡ true) e (same-same (place_of (sees m o t))))))
reach-now m o t (Some q) e =
    covers-read (floor_of m) _ t (covers-rest q.start (if same_object o o && same_place (place_of (sees m o t)) (Some q.place) then top t (stretched m o (Some q.place)) else stretched m o (Some q.place)) t
    (covers-if (same_object o o && same_place (place_of (sees m o t)) (Some q.place)) t (stretched m o (Some q.place))
    (and-both (same_object o o) _ (same_object-of o o refl) (subst (λ r. same_place (place_of (sees m o t)) (place_of r) ≡ true) e (same-same (place_of (sees m o t)))))))

-- a read that is answered isn't below the floor
answer-from : (f : Option TimeParts) (m : List Mark) (o : ObjectId) (t : TimeParts) (v : Value) (st : Bool) → read_from f m o t ≡ Answer v st → read_seen m o t (sees m o t) ≡ Answer v st
answer-from None m o t v st h = h
answer-from (Some e) m o t v st h = choice (lt t e) h
  where
    choice : (b : Bool) → (if b then LaterRead e else read_seen m o t (sees m o t)) ≡ Answer v st → read_seen m o t (sees m o t) ≡ Answer v st
    choice true h = absurd (cc h)
    choice false h = h

still-viewed : (m : List Mark) (o : ObjectId) (t : TimeParts) (v : Value) (st : Bool) → alive m t ≡ true → read_step m o t ≡ Answer v st →
    st ≡ false → Viewed m o t v
still-viewed m o t v st live k e =
    let h : read_seen m o t (sees m o t) ≡ Answer v st = answer-from (floor_of m) m o t v st k in
    let P : Option Seen → Type 0 = λ r. (value_of r ≡ v) × Firm m t r × Shut m o t r in
    subst P (sees-views m o t live) (
      read-value m o t (sees m o t) v st h,
      firm-now m t (sees m o t) (scan-passes (λ x. lt x t && alive m x) o m) (read-answered m o t (sees m o t) v st h),
      shut-now m o t (sees m o t) refl (read-stretch m o t (sees m o t) v st h ∙ e),
    )

stretch-viewed : (m : List Mark) (o : ObjectId) (t : TimeParts) (v : Value) (st : Bool) → alive m t ≡ true → read_step m o t ≡ Answer v st →
    Viewed (Stretch o t ∷ m) o t v
unfolding scan settle_of
stretch-viewed m o t v st live w =
    let h : read_seen m o t (sees m o t) ≡ Answer v st = answer-from (floor_of m) m o t v st w in
    let P : Option Seen → Type 0 = λ r. (value_of r ≡ v) × Firm m t r × Covers (reach (Stretch o t ∷ m) o r) t in
    let k : P (views m o t) = subst P (sees-views m o t live) (
      read-value m o t (sees m o t) v st h,
      firm-now m t (sees m o t) (scan-passes (λ x. lt x t && alive m x) o m) (read-answered m o t (sees m o t) v st h),
      reach-now m o t (sees m o t) refl,
    ) in
    (k.0, firm-kept m (Stretch o t) t (views m o t) k.1, inl k.2)

pub not-dead : (u : Option Bool) → u ≢ Some false → is_alive u ≡ true
not-dead None h = refl
not-dead (Some true) h = refl
not-dead (Some false) h = absurd (h refl)

pub answer-viewed : (m : List Mark) (o : ObjectId) (t : TimeParts) (v : Value) (st : Bool) → settle_of m t.stamp ≢ Some false →
    read_step m o t ≡ Answer v st → Viewed (after_read m o t (Answer v st)) o t v
answer-viewed m o t v true live h = stretch-viewed m o t v true (not-dead (settle_of m t.stamp) live) h
answer-viewed m o t v false live h = still-viewed m o t v false (not-dead (settle_of m t.stamp) live) h refl

-- ---- what the answers of a write say

reach-again : (b : Bool) (e : TimeParts) → (if b then write.LaterRead e else write.Put) ≡ write.Again → ⊥
reach-again true e h = cc h
reach-again false e h = cc h

not-again : (t : TimeParts) (e : Option TimeParts) → write_reach t e ≡ write.Again → ⊥
not-again t None h = cc h
not-again t (Some e) h = reach-again (lt t e) e h

newest-again : (b : Bool) (t : TimeParts) (q : Seen) (e : Option TimeParts) → (if b then write_reach t e else write.LaterVersion q.start) ≡ write.Again → ⊥
newest-again true t q e h = not-again t e h
newest-again false t q e h = cc h

never-again : (t : TimeParts) (r : Option Seen) (e : Option TimeParts) → write_newest t r e ≡ write.Again → ⊥
never-again t None e h = not-again t e h
never-again t (Some q) e h = newest-again (lt q.start t) t q e h

again-test : (b : Bool) (t : TimeParts) (r : Option Seen) (e : Option TimeParts) → (if b then write.Again else write_newest t r e) ≡ write.Again → b ≡ true
again-test true t r e h = refl
again-test false t r e h = absurd (never-again t r e h)

put-same : (a o : ObjectId) (x t : TimeParts) (w v : Value) → (same_object a o && (same_time x t && same_value w v)) ≡ true → Put a x w ≡ Put o t v
put-same a o x t w v h =
    let k = and-right (same_object a o) _ h in
    ap (λ z. Put z x w) (same_object-is a o (and-left (same_object a o) _ h)) ∙ ap (λ z. Put o z w) (same_time-is x t (and-left (same_time x t) _ k))
    ∙ ap (λ z. Put o t z) (same_value-is w v (and-right (same_time x t) _ k))

pub put-stands : (o : ObjectId) (t : TimeParts) (v : Value) (m : List Mark) → has_put o t v m ≡ true → Has (Put o t v) m
unfolding has_put
put-stands o t v [] h = false≢true h
put-stands o t v (Put a x w ∷ m) h = elim (or-cases (same_object a o && (same_time x t && same_value w v)) (has_put o t v m) h) [
  | inl k ↦ inl (put-same a o x t w v k)
  | inr k ↦ inr (put-stands o t v m k)
]
put-stands o t v (Stretch a x ∷ m) h = inr (put-stands o t v m h)
put-stands o t v (Settle s c ∷ m) h = inr (put-stands o t v m h)
put-stands o t v (Floor z ∷ m) h = inr (put-stands o t v m h)

pub again-stands : (m : List Mark) (o : ObjectId) (t : TimeParts) (v : Value) → write_step m o t v ≡ write.Again → Has (Put o t v) m
again-stands m o t v h =
    put-stands o t v m (and-right (alive m t) (has_put o t v m) (again-test (stands_written m o t v) t (newest m o) (reach m o (newest m o)) h))

-- the refusals
step-not-again : (b : Bool) (w u : WriteStep) → u ≢ write.Again → (if b then write.Again else w) ≡ u → w ≡ u
step-not-again true w u n h = absurd (n (sym h))
step-not-again false w u n h = h

reach-later : (t : TimeParts) (b : Bool) (g e : TimeParts) → lt t g ≡ b → (if b then write.LaterRead g else write.Put) ≡ write.LaterRead e → (lt t e ≡ true) × (g ≡ e)
reach-later t true g e l h = let same : g ≡ e = cc h in (subst (λ z. lt t z ≡ true) same l, same)
reach-later t false g e l h = absurd (cc h)

read-reach : (t : TimeParts) (r : Option TimeParts) (e : TimeParts) → write_reach t r ≡ write.LaterRead e → (lt t e ≡ true) × (r ≡ Some e)
read-reach t None e h = absurd (cc h)
read-reach t (Some g) e h = let k = reach-later t (lt t g) g e refl h in (k.0, ap (λ z. Some z) k.1)

newest-later : (t : TimeParts) (b : Bool) (q : Seen) (r : Option TimeParts) (e : TimeParts) → lt q.start t ≡ b →
    (if b then write_reach t r else write.LaterVersion q.start) ≡ write.LaterRead e → (lt q.start t ≡ true) × (write_reach t r ≡ write.LaterRead e)
newest-later t true q r e l h = (l, h)
newest-later t false q r e l h = absurd (cc h)

stretch-if : (b : Bool) (a o : ObjectId) (x e : TimeParts) (s : Option TimeParts) (m : List Mark) → (b ≡ true → a ≡ o) →
    (s ≡ Some e → Has (Stretch o e) m) → (if b then top x s else s) ≡ Some e → Has (Stretch o e) (Stretch a x ∷ m)
stretch-if false a o x e s m k g h = inr (g h)
stretch-if true a o x e None m k g h = let p : x ≡ e = cc h in inl (ap (λ z. Stretch z x) (k refl) ∙ ap (λ z. Stretch o z) p)
stretch-if true a o x e (Some y) m k g h = choice (lt x y) h
  where
    choice : (c : Bool) → (if c then Some y else Some x) ≡ Some e → Has (Stretch o e) (Stretch a x ∷ m)
    choice true h = inr (g h)
    choice false h = let p : x ≡ e = cc h in inl (ap (λ z. Stretch z x) (k refl) ∙ ap (λ z. Stretch o z) p)

stretch-stands : (m : List Mark) (o : ObjectId) (r : Option ℕ) (e : TimeParts) → stretched m o r ≡ Some e → Has (Stretch o e) m
unfolding stretched
stretch-stands [] o r e h = cc h
stretch-stands (Put a x v ∷ m) o r e h = inr (stretch-stands m o r e h)
stretch-stands (Settle s c ∷ m) o r e h = inr (stretch-stands m o r e h)
stretch-stands (Floor z ∷ m) o r e h = inr (stretch-stands m o r e h)
stretch-stands (Stretch a x ∷ m) o r e h =
    stretch-if (same_object a o && same_place (place_of (sees m o x)) r) a o x e (stretched m o r) m (λ k. same_object-is a o (and-left (same_object a o) _ k)) (stretch-stands m o r e) h

top-rest : (x e t : TimeParts) (s : Option TimeParts) → lt x t ≡ true → lt t e ≡ true → top x s ≡ Some e → s ≡ Some e
top-rest x e t None l g h = let p : x ≡ e = cc h in absurd (true≢false (sym (lt-trans x t x l (subst (λ z. lt t z ≡ true) (sym p) g)) ∙ lt-irreflexive x))
top-rest x e t (Some y) l g h = choice (lt x y) h
  where
    choice : (c : Bool) → (if c then Some y else Some x) ≡ Some e → Some y ≡ Some e
    choice true h = h
    choice false h = let p : x ≡ e = cc h in absurd (true≢false (sym (lt-trans x t x l (subst (λ z. lt t z ≡ true) (sym p) g)) ∙ lt-irreflexive x))

-- a floor stands
pub floor-stands : (m : List Mark) (e : TimeParts) → floor_of m ≡ Some e → Has (Floor e) m
unfolding floor_of
floor-stands [] e h = cc h
floor-stands (Put a x v ∷ m) e h = inr (floor-stands m e h)
floor-stands (Stretch a x ∷ m) e h = inr (floor-stands m e h)
floor-stands (Settle s c ∷ m) e h = inr (floor-stands m e h)
floor-stands (Floor x ∷ m) e h = either (floor_of m) (floor-stands m e) h
  where
    choice : (y : TimeParts) (c : Bool) → (Some y ≡ Some e → Has (Floor e) m) → (if c then Some y else Some x) ≡ Some e → Has (Floor e) (Floor x ∷ m)
    choice y true g h = inr (g h)
    choice y false g h = let p : x ≡ e = cc h in inl (ap (λ z. Floor z) p)

    either : (f : Option TimeParts) → (f ≡ Some e → Has (Floor e) m) → top x f ≡ Some e → Has (Floor e) (Floor x ∷ m)
    either None g h = let p : x ≡ e = cc h in inl (ap (λ z. Floor z) p)
    either (Some y) g h = choice y (lt x y) g h

-- ---- reads and the floor

-- what is seen refuses no read
never-later : (m : List Mark) (o : ObjectId) (t : TimeParts) (r : Option Seen) (e : TimeParts) → read_seen m o t r ≡ LaterRead e → ⊥
never-later m o t None e h = cc h
never-later m o t (Some q) e h = choice (same_stamp q.start.stamp t.stamp || is_settled (settle_of m q.start.stamp)) h
  where
    choice : (b : Bool) → (if b then Answer q.value (needs_stretch m o t (Some q)) else Wait q.start.stamp) ≡ LaterRead e → ⊥
    choice true k = cc k
    choice false k = cc k

refused-from : (f : Option TimeParts) (m : List Mark) (o : ObjectId) (t e : TimeParts) → read_from f m o t ≡ LaterRead e → (lt t e ≡ true) × (f ≡ Some e)
refused-from None m o t e h = absurd (never-later m o t (sees m o t) e h)
refused-from (Some x) m o t e h = choice (lt t x) refl h
  where
    choice : (b : Bool) → lt t x ≡ b → (if b then LaterRead x else read_seen m o t (sees m o t)) ≡ LaterRead e → (lt t e ≡ true) × (Some x ≡ Some e)
    choice true l k = let p : x ≡ e = cc k in (subst (λ z. lt t z ≡ true) p l, ap (λ z. Some z) p)
    choice false l k = absurd (never-later m o t (sees m o t) e k)

pub read-below : (m : List Mark) (o : ObjectId) (t e : TimeParts) → read_step m o t ≡ LaterRead e → (lt t e ≡ true) × Has (Floor e) m
read-below m o t e h = let k = refused-from (floor_of m) m o t e h in (k.0, floor-stands m e k.1)

on-floor : (f : Option TimeParts) (m : List Mark) (o : ObjectId) (t : TimeParts) (v : Value) (st : Bool) → read_from f m o t ≡ Answer v st → (e : TimeParts) → f ≡ Some e → lt t e ≡ false
on-floor None m o t v st h e k = cc k
on-floor (Some x) m o t v st h e k = choice (lt t x) refl h
  where
    choice : (b : Bool) → lt t x ≡ b → (if b then LaterRead x else read_seen m o t (sees m o t)) ≡ Answer v st → lt t e ≡ false
    choice true l w = absurd (cc w)
    choice false l w = let p : x ≡ e = cc k in subst (λ z. lt t z ≡ false) p l

pub answer-on-floor : (m : List Mark) (o : ObjectId) (t : TimeParts) (v : Value) (st : Bool) → read_step m o t ≡ Answer v st → IsOnFloor m t
answer-on-floor m o t v st h = on-floor (floor_of m) m o t v st h

-- ---- a write that is refused

either-end : (f s : Option TimeParts) (e : TimeParts) → latest f s ≡ Some e → (f ≡ Some e) ⊎ (s ≡ Some e)
either-end None s e h = inr h
either-end (Some x) None e h = inl h
either-end (Some x) (Some y) e h = choice (lt x y) h
  where
    choice : (c : Bool) → (if c then Some y else Some x) ≡ Some e → (Some x ≡ Some e) ⊎ (Some y ≡ Some e)
    choice true h = inr h
    choice false h = inl h

later-of : (m : List Mark) (o : ObjectId) (t e : TimeParts) (r : Option Seen) → write_newest t r (reach m o r) ≡ write.LaterRead e → (lt t e ≡ true) × (Has (Stretch o e) m ⊎ Has (Floor e) m)
later-of m o t e None h =
    let k = read-reach t (reach m o None) e h in (
      k.0,
      elim (either-end (floor_of m) (stretched m o None) e k.1) [
        | inl f ↦ inr (floor-stands m e f)
        | inr s ↦ inl (stretch-stands m o None e s)
      ],
    )
later-of m o t e (Some q) h =
    let g = newest-later t (lt q.start t) q (reach m o (Some q)) e refl h in
    let k = read-reach t (reach m o (Some q)) e g.1 in (
      k.0,
      elim (either-end (floor_of m) (top q.start (stretched m o (Some q.place))) e k.1) [
        | inl f ↦ inr (floor-stands m e f)
        | inr s ↦ inl (stretch-stands m o (Some q.place) e (top-rest q.start e t (stretched m o (Some q.place)) g.0 k.0 s))
      ],
    )

pub later-read : (m : List Mark) (o : ObjectId) (t : TimeParts) (v : Value) (e : TimeParts) → write_step m o t v ≡ write.LaterRead e →
    (lt t e ≡ true) × (Has (Stretch o e) m ⊎ Has (Floor e) m)
later-read m o t v e h =
    later-of m o t e (newest m o) (step-not-again (stands_written m o t v) (write_newest t (newest m o) (reach m o (newest m o))) (write.LaterRead e) (λ k. cc k) h)

reach-version : (b : Bool) (g x : TimeParts) → (if b then write.LaterRead g else write.Put) ≡ write.LaterVersion x → ⊥
reach-version true g x h = cc h
reach-version false g x h = cc h

no-version : (t x : TimeParts) (r : Option TimeParts) → write_reach t r ≡ write.LaterVersion x → ⊥
no-version t x None h = cc h
no-version t x (Some g) h = reach-version (lt t g) g x h

version-if : (t x : TimeParts) (b : Bool) (q : Seen) (r : Option TimeParts) → lt q.start t ≡ b →
    (if b then write_reach t r else write.LaterVersion q.start) ≡ write.LaterVersion x → (lt q.start t ≡ false) × (q.start ≡ x)
version-if t x true q r l h = absurd (no-version t x r h)
version-if t x false q r l h = (l, cc h)

version-of : (m : List Mark) (o : ObjectId) (t x : TimeParts) (r : Option Seen) (e : Option TimeParts) → Standing o m r →
    write_newest t r e ≡ write.LaterVersion x → (lt x t ≡ false) × ((w : Value) × Has (Put o x w) m)
version-of m o t x None e s h = absurd (no-version t x e h)
version-of m o t x (Some q) e s h =
    let k = version-if t x (lt q.start t) q e refl h in
    (subst (λ z. lt z t ≡ false) k.1 k.0, (q.value, subst (λ z. Has (Put o z q.value) m) k.1 (stands-has o m q s)))

pub later-version : (m : List Mark) (o : ObjectId) (t : TimeParts) (v : Value) (x : TimeParts) → write_step m o t v ≡ write.LaterVersion x →
    (lt x t ≡ false) × ((w : Value) × Has (Put o x w) m)
later-version m o t v x h =
    version-of m o t x (newest m o) (reach m o (newest m o)) (standing (λ y. alive m y) o m)
    (step-not-again (stands_written m o t v) (write_newest t (newest m o) (reach m o (newest m o))) (write.LaterVersion x) (λ k. cc k) h)
