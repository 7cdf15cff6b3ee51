-- The rule that keeps the last value, folded up to a pseudotime below which nothing is undecided, gives the last committed version below it.
use Rattle.archive_store.proofs.Names.{◌≡◌, Bool, true, false, List, [], ◌∷◌, map, filter, refl, sym, ◌∙◌, ap, subst, Option, Some, None, ◌&&◌, ◌||◌, not, if◌then◌else◌, inl, inr, ◌⊎◌, Result, Ok, Err, true≢false, false≢true, Every, TimeParts, lt, ObjectId, Value, Mark, Put, Stretch, Settle, Floor, same_object, Seen, settle_of, is_settled, is_committed, version_count, starts_above, pick, scan, floor_of, some_put, moved_at, last_below, entry_of, is_open, is_wanting}
use Rattle.pseudo_time.proofs.OrderLemmas.{lt-split}
use Rattle.value_form.specs.declared.values.Value.TheVariants.{Nothing}
use Rattle.object_history.specs.Kept.{is_past, is_below}
use Rattle.object_history.specs.Settled.{insert, listed, is_blocked, settled_versions}
use Rattle.commit_watch.specs.declared.moved.Moved.{Moved}
use Rattle.commit_watch.specs.declared.faults.WatchFault.{WatchFault}
use Rattle.commit_watch.specs.declared.faults.WatchFault.TheVariants as fault
use Rattle.commit_watch.specs.Rules.{latest_next}
use Rattle.commit_watch.specs.Refusals.{IsRefusal}
use Rattle.commit_watch.specs.Folds.{version_of, fresh, is_under, unless_retired, moved_over, advanced}
use Rattle.commit_watch.proofs.StandingLemmas.{Sorted, sorted-listed, filter-listed}

-- ---- the last of a listing

abbrev last_or : Option Seen → List Seen → Option Seen
last_or r [] = r
last_or r (q ∷ qs) = last_or (Some q) qs

abbrev choose : Seen → Option Seen → Option Seen
choose q r = if not (starts_above r q.start) then Some q else r

last-in : (q p : Seen) (b : Bool) (ps : List Seen) (r : Option Seen) → lt q.start p.start ≡ b → Sorted (p ∷ ps) → (b ≡ false → last_or (Some p) (insert q ps) ≡ choose q (last_or (Some p) ps)) →
    last_or r (if b then q ∷ p ∷ ps else p ∷ insert q ps) ≡ choose q (last_or (Some p) ps)
last-in q p false ps r e s h = h refl
last-in q p true ps r e s h = sym (ap (λ b. if not b then Some q else last_or (Some p) ps) (over (Some p) ps e (every-above ps s.0)))
  where
    every-above : (qs : List Seen) → Every (λ z. lt z.start p.start ≡ false) qs → Every (λ z. lt q.start z.start ≡ true) qs
    every-above [] k = tt
    every-above (z ∷ zs) k = (lt-split q.start z.start p.start e k.0, every-above zs k.1)

    over : (r : Option Seen) (qs : List Seen) → starts_above r q.start ≡ true → Every (λ z. lt q.start z.start ≡ true) qs → starts_above (last_or r qs) q.start ≡ true
    over r [] k l = k
    over r (z ∷ zs) k l = over (Some z) zs l.0 l.1

last-insert : (q : Seen) (ps : List Seen) (r : Option Seen) → Sorted ps → (starts_above r q.start ≡ false ⊎ ((p : Seen) × (zs : List Seen) × (ps ≡ p ∷ zs))) → last_or r (insert q ps) ≡ choose q (last_or r ps)
unfolding insert
last-insert q [] r s (inl h) = sym (ap (λ b. if not b then Some q else r) h)
last-insert q [] r s (inr h) = absurd (false≢true (ap is_none (sym h.2)))
  where
    is_none : List Seen → Bool
    is_none [] = true
    is_none (z ∷ zs) = false
last-insert q (p ∷ ps) r s h = last-in q p (lt q.start p.start) ps r refl s (λ e. last-insert q ps (Some p) s.1 (inl e))

last-put : (b : Bool) (q : Seen) (qs : List Seen) (r : Option Seen) → Sorted qs → last_or None qs ≡ r → last_or None (if b then insert q qs else qs) ≡ pick b q r
unfolding pick
last-put false q qs r s h = h
last-put true q qs r s h = last-insert q qs None s (inl refl) ∙ ap (choose q) h

last-listed : (f : TimeParts → Bool) (o : ObjectId) (m : List Mark) → last_or None (listed f o m) ≡ scan f o m
unfolding listed scan
last-listed f o [] = refl
last-listed f o (Put a x v ∷ m) = last-put (same_object a o && f x) (record { place = version_count o m; start = x; value = v }) (listed f o m) (scan f o m) (sorted-listed f o m) (last-listed f o m)
last-listed f o (Stretch a x ∷ m) = last-listed f o m
last-listed f o (Settle s c ∷ m) = last-listed f o m
last-listed f o (Floor z ∷ m) = last-listed f o m

-- ---- the rule

abbrev entry_with : ObjectId → Option (Moved Value) → Option Seen → Option (Moved Value)
entry_with o w None = w
entry_with o w (Some q) = entry_of o (Some q)

latest-over : (o : ObjectId) (w : Option (Moved Value)) (r : Option Seen) (qs : List Seen) → entry_with o None r ≡ w → moved_over Nothing latest_next o w (map (version_of o) qs) ≡ Ok (entry_of o (last_or r qs))
unfolding moved_over
latest-over o w None [] h = ap Ok (sym h)
latest-over o w (Some q) [] h = ap Ok (sym h)
latest-over o w r (q ∷ qs) h = latest-over o (entry_of o (Some q)) (Some q) qs refl

-- ---- below a time

none-lost : (o : ObjectId) (m : List Mark) (cursor : Option TimeParts) → some_put (λ x. is_under None x && is_past cursor x) o m ≡ false
unfolding some_put
none-lost o [] cursor = refl
none-lost o (Put a x v ∷ m) cursor = and-no (same_object a o) ∙ none-lost o m cursor
  where
    and-no : (b : Bool) → ((b && false) || some_put (λ x. is_under None x && is_past cursor x) o m) ≡ some_put (λ x. is_under None x && is_past cursor x) o m
    and-no true = refl
    and-no false = refl
none-lost o (Stretch a x ∷ m) cursor = none-lost o m cursor
none-lost o (Settle s c ∷ m) cursor = none-lost o m cursor
none-lost o (Floor z ∷ m) cursor = none-lost o m cursor

some-more : (f g : TimeParts → Bool) (o : ObjectId) (m : List Mark) → ((x : TimeParts) → g x ≡ true → f x ≡ true) → some_put f o m ≡ false → some_put g o m ≡ false
unfolding some_put
some-more f g o [] h k = refl
some-more f g o (Put a x v ∷ m) h k = less (same_object a o) (f x) (g x) (some_put f o m) (some_put g o m) (h x) (some-more f g o m h) k
  where
    less : (e b c r s : Bool) → (c ≡ true → b ≡ true) → (r ≡ false → s ≡ false) → ((e && b) || r) ≡ false → ((e && c) || s) ≡ false
    less true true c r s i j k = absurd (true≢false k)
    less true false true r s i j k = absurd (false≢true (i refl))
    less true false false r s i j k = j k
    less false b c r s i j k = j k
some-more f g o (Stretch a x ∷ m) h k = some-more f g o m h k
some-more f g o (Settle s c ∷ m) h k = some-more f g o m h k
some-more f g o (Floor z ∷ m) h k = some-more f g o m h k

-- nothing is undecided below t: so nothing below t is blocked
open-free : (m : List Mark) (o : ObjectId) (t x : TimeParts) → is_open m o t (λ y. true) ≡ false → lt x t ≡ true → is_blocked m o x ≡ false
open-free m o t x h l =
    some-more (λ y. (lt y t && not (is_settled (settle_of m y.stamp))) && true) (λ y. not (is_settled (settle_of m y.stamp)) && not (lt x y)) o m
    (λ y k. joins (lt y t) (not (is_settled (settle_of m y.stamp))) (below y (right (not (is_settled (settle_of m y.stamp))) (not (lt x y)) k)) (left (not (is_settled (settle_of m y.stamp))) (not (lt x y)) k)) h
  where
    left : (a b : Bool) → (a && b) ≡ true → a ≡ true
    left true b k = refl
    left false b k = k

    right : (a b : Bool) → (a && b) ≡ true → b ≡ true
    right true b k = k
    right false b k = absurd (false≢true k)

    joins : (a b : Bool) → a ≡ true → b ≡ true → ((a && b) && true) ≡ true
    joins true true i j = refl
    joins true false i j = j
    joins false b i j = i

    not-yes : (b : Bool) → not b ≡ true → b ≡ false
    not-yes true k = absurd (false≢true k)
    not-yes false k = refl

    below : (y : TimeParts) → not (lt x y) ≡ true → lt y t ≡ true
    below y k = less-than (lt y t) refl
      where
        less-than : (b : Bool) → lt y t ≡ b → lt y t ≡ true
        less-than true e = e
        less-than false e = absurd (true≢false (sym (lt-split x y t l e) ∙ not-yes (lt x y) k))

test-same : (c b p : Bool) → (p ≡ true → b ≡ false) → ((c && not b) && p) ≡ (p && c)
test-same true true true h = absurd (true≢false (h refl))
test-same true true false h = refl
test-same true false true h = refl
test-same true false false h = refl
test-same false b true h = refl
test-same false b false h = refl

by-point : {A B : Type 0} (f g : A → B) → ((x : A) → f x ≡ g x) → f ≡ g
by-point f g h = λ i x. h x i

-- a watch over this rule, from nothing on, has the last committed version below t
pub latest-advanced : (m : List Mark) (o : ObjectId) (t : TimeParts) → floor_of m ≡ None → is_open m o t (λ y. true) ≡ false →
    advanced Nothing latest_next o m (Some t) None ≡ Ok (entry_of o (last_below m o t))
latest-advanced m o t none h =
    ap (λ e. unless_retired (some_put (λ x. is_under e x && is_past None x) o m) o e (moved_over Nothing latest_next o None (fresh m o None (Some t)))) none
    ∙ ap (λ b. unless_retired b o None (moved_over Nothing latest_next o None (fresh m o None (Some t)))) (none-lost o m None)
    ∙ latest-over o None None (filter (λ q. is_past None q.start && is_below (Some t) q.start) (settled_versions m o)) refl
    ∙ ap (λ qs. Ok (entry_of o (last_or None qs))) (filter-listed (λ x. lt x t) (λ x. is_committed (settle_of m x.stamp) && not (is_blocked m o x)) o m
    ∙ ap (λ (f : TimeParts → Bool). listed f o m) (by-point _ _ (λ x. test-same (is_committed (settle_of m x.stamp)) (is_blocked m o x) (lt x t) (open-free m o t x h))))
    ∙ ap (λ r. Ok (entry_of o r)) (last-listed (λ x. lt x t && is_committed (settle_of m x.stamp)) o m)

abbrev some_of : {A : Type 0} → Result A WatchFault → Bool
some_of (Ok a) = true
some_of (Err e) = false

-- it is never refused
pub never-refused : (m : List Mark) (t : TimeParts) (e : WatchFault) → floor_of m ≡ None → ((o : ObjectId) → is_open m o t (λ y. true) ≡ false) → IsRefusal (λ o. advanced Nothing latest_next o m (Some t) None) e → ⊥
never-refused m t e none h r = true≢false (sym (ap some_of (latest-advanced m r.object t none (h r.object))) ∙ ap some_of r.refused)

same-ok : {A : Type 0} (d : A) (a b : A) → ◌≡◌ {A = Result A WatchFault} (Ok a) (Ok b) → a ≡ b
same-ok {A} d a b e = ap inner e
  where
    inner : Result A WatchFault → A
    inner (Ok z) = z
    inner (Err k) = d

pub latest-is : (m : List Mark) (o : ObjectId) (t : TimeParts) (old new : List (Moved Value)) → old ≡ [] → floor_of m ≡ None → is_open m o t (λ y. true) ≡ false →
    advanced Nothing latest_next o m (Some t) (moved_at o old) ≡ Ok (moved_at o new) → moved_at o new ≡ entry_of o (last_below m o t)
unfolding moved_at
latest-is m o t old new e none h a =
    sym (same-ok None (entry_of o (last_below m o t)) (moved_at o new) (sym (latest-advanced m o t none h) ∙ sym (ap (λ ws. advanced Nothing latest_next o m (Some t) (moved_at o ws)) e) ∙ a))

pub refused-empty : (m : List Mark) (t : TimeParts) (old : List (Moved Value)) (e : WatchFault) → old ≡ [] → IsRefusal (λ o. advanced Nothing latest_next o m (Some t) (moved_at o old)) e → IsRefusal (λ o. advanced Nothing latest_next o m (Some t) None) e
unfolding moved_at
refused-empty m t old e is r = subst (λ ws. IsRefusal (λ o. advanced Nothing latest_next o m (Some t) (moved_at o ws)) e) is r

pub only-wanting : (m : List Mark) (t : TimeParts) (old : List (Moved Value)) (e : WatchFault) → old ≡ [] → floor_of m ≡ None → ((o : ObjectId) → is_open m o t (λ y. true) ≡ false) →
    (e ≡ fault.NoMemory) ⊎ IsRefusal (λ o. advanced Nothing latest_next o m (Some t) (moved_at o old)) e → is_wanting e ≡ true
only-wanting m t old e is none h (inl k) = ap is_wanting k
only-wanting m t old e is none h (inr r) = absurd (never-refused m t e none h (refused-empty m t old e is r))
