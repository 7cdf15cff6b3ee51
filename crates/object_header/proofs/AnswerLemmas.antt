-- What a read and a write answer, by the header and by the newest version that passes.
use Rattle.std.specs.FinMap as finite
use Rattle.object_header.proofs.Names.{TimeParts, same_stamp, same_time, lt, lt-irreflexive, ObjectId, Value, Nothing, Mark, Put, Stretch, Settle, Floor, same_object, same_value, is_settled, is_committed, settle_of, alive, Seen, scan, sees, newest, top, stretched, floor_of, latest, reach, is_above, some_put, settled_over, needs_stretch, read_seen, read_from, read_step, has_put, stands_written, write_reach, write_newest, Settled, Starts, IsOnFloor, Passes, Low, scan-passes, low-all, same_object-is, Limit, Span, Look, HeadParts, is_living, is_firm, passes, look, Fits, spans_in, Rising, first_put, IsHead, waits, is_written, first, ◌≡◌, Bool, true, false, List, [], ◌∷◌, ◌++◌, refl, sym, ◌∙◌, ap, subst, Option, Some, None, ◌&&◌, ◌||◌, not, if◌then◌else◌, false≢true, true≢false, lt-split, same_time-is, answer_first}
use Rattle.object_history.specs.declared.steps.ReadStep.TheVariants as read
use Rattle.object_history.specs.declared.steps.WriteStep.TheVariants as write
use Rattle.object_header.specs.declared.limits.Limit.TheVariants as limit
use Rattle.object_header.specs.declared.heads.Look.TheVariants as found
use Rattle.object_header.proofs.SpanLemmas.{looked, look-same}
use Rattle.object_header.proofs.RisingLemmas.{shown, first-scan}
use Rattle.object_header.proofs.HeadLemmas.{some_put-fewer}
use Rattle.object_header.proofs.LookLemmas.{Says, look-says, sees-is, newest-is, passes-lives, living-is, newest-living}

-- ---- puts that pass

same_and : (s f g : Bool) → f ≡ g → (s && f) ≡ (s && g)
same_and s f g h = ap (λ b. s && b) h

pub some_put-same : (f g : TimeParts → Bool) (o : ObjectId) (m : List Mark) → ((x : TimeParts) → f x ≡ g x) → some_put f o m ≡ some_put g o m
unfolding some_put
some_put-same f g o [] h = refl
some_put-same f g o (Put a x v ∷ m) h = ap (λ b. b || some_put f o m) (same_and (same_object a o) (f x) (g x) (h x)) ∙ ap (λ b. (same_object a o && g x) || b) (some_put-same f g o m h)
some_put-same f g o (Stretch a x ∷ m) h = some_put-same f g o m h
some_put-same f g o (Settle s c ∷ m) h = some_put-same f g o m h
some_put-same f g o (Floor z ∷ m) h = some_put-same f g o m h

turned : (b c : Bool) → (c ≡ false → b ≡ false) → b ≡ true → c ≡ true
turned b true h is = refl
turned b false h is = absurd (false≢true (sym (h refl) ∙ is))

some_put-more : (f g : TimeParts → Bool) (o : ObjectId) (m : List Mark) → ((x : TimeParts) → f x ≡ true → g x ≡ true) → some_put f o m ≡ true → some_put g o m ≡ true
some_put-more f g o m h is = turned (some_put f o m) (some_put g o m) (some_put-fewer f g o m h) is

firm-is : (m : List Mark) (settled : Settled) (y : TimeParts) → Fits m settled → is_firm settled y ≡ is_committed (settle_of m y.stamp)
firm-is m settled y fits = ap is_committed (fits y.stamp)

and_none : (a b : Bool) → b ≡ false → (a && not b) ≡ a
and_none true b h = ap not h
and_none false b h = refl

and_some : (a b : Bool) → b ≡ true → (a && not b) ≡ false
and_some true b h = ap not h
and_some false b h = refl

and_parts : (a b : Bool) → (a && b) ≡ true → (a ≡ true) × (b ≡ true)
and_parts true b h = (refl, h)
and_parts false b h = absurd (false≢true h)

not_parts : (a b : Bool) → (a && not b) ≡ true → (a ≡ true) × (b ≡ false)
not_parts true false h = (refl, refl)
not_parts true true h = absurd (false≢true h)
not_parts false b h = absurd (false≢true h)

and_is : (a b c d : Bool) → a ≡ c → b ≡ d → (a && b) ≡ (c && d)
and_is a b c d h k = ap (λ z. z && b) h ∙ ap (λ z. c && z) k

-- ---- reads over the floor

pub read-over : (m : List Mark) (o : ObjectId) (t : TimeParts) → IsOnFloor m t → read_step m o t ≡ read_seen m o t (sees m o t)
read-over m o t on = over (floor_of m) on
  where
    over : (f : Option TimeParts) → ((e : TimeParts) → f ≡ Some e → lt t e ≡ false) → read_from f m o t ≡ read_seen m o t (sees m o t)
    over None on = refl
    over (Some e) on = ap (λ b. if b then read.LaterRead e else read_seen m o t (sees m o t)) (on e refl)

pub read-under : (m : List Mark) (o : ObjectId) (t e : TimeParts) → Some e ≡ floor_of m → lt t e ≡ true → read_step m o t ≡ read.LaterRead e
read-under m o t e is below = ap (λ f. read_from f m o t) (sym is) ∙ ap (λ b. if b then read.LaterRead e else read_seen m o t (sees m o t)) below

both_true : (a b : Bool) → a ≡ true → b ≡ true → (a && b) ≡ true
both_true true b h k = k
both_true false b h k = absurd (false≢true h)

module _ (settled : Settled) (m : List Mark) (o : ObjectId) (h : HeadParts) (fits : Fits m settled) (rising : Rising settled o m) (is : IsHead settled m o h) where
  pub says : (l : Limit) → Says settled l m o m (look settled l h.spans)
  says l = subst (Says settled l m o m) (sym (look-same settled l h.spans (spans_in m o m) is.spans)) (look-says settled l m o m rising)

  -- ---- reads

  seen_first : (t : TimeParts) (stretch : Bool) (r : Option Seen) → needs_stretch m o t r ≡ stretch → read_seen m o t r ≡ answer_first settled t stretch (shown r)
  seen_first t stretch None need = ap (λ b. read.Answer Nothing b) need
  seen_first t stretch (Some q) need =
      turn (same_stamp q.start.stamp t.stamp) (is_settled (settle_of m q.start.stamp)) (is_settled (finite.get settled q.start.stamp)) (sym (ap is_settled (fits q.start.stamp)))
      ∙ ap (λ b. if waits settled t.stamp q.start.stamp then read.Wait q.start.stamp else read.Answer q.value b) need
    where
      turn : (a b c : Bool) → b ≡ c → (if a || b then read.Answer q.value (needs_stretch m o t (Some q)) else read.Wait q.start.stamp) ≡ (if not (a || c) then read.Wait q.start.stamp else read.Answer q.value (needs_stretch m o t (Some q)))
      turn true b c e = refl
      turn false b true e = ap (λ z. if z then read.Answer q.value (needs_stretch m o t (Some q)) else read.Wait q.start.stamp) e
      turn false b false e = ap (λ z. if z then read.Answer q.value (needs_stretch m o t (Some q)) else read.Wait q.start.stamp) e

  pub read-first : (t : TimeParts) (stretch : Bool) → IsOnFloor m t → needs_stretch m o t (sees m o t) ≡ stretch → read_step m o t ≡ answer_first settled t stretch (first_put (passes settled (limit.Below t)) o m)
  read-first t stretch on need =
      read-over m o t on ∙ seen_first t stretch (sees m o t) need
      ∙ ap (λ r. answer_first settled t stretch (shown r)) (sees-is m settled o t fits)
      ∙ sym (ap (answer_first settled t stretch) (first-scan settled (passes settled (limit.Below t)) o m (passes-lives settled (limit.Below t)) rising))

  over_none : some_put (λ y. is_firm settled y) o m ≡ false → settled_over m o None ≡ false
  over_none none = some_put-same (λ y. is_committed (settle_of m y.stamp) && true) (λ y. is_firm settled y) o m (λ y. one (is_committed (settle_of m y.stamp)) (is_firm settled y) (sym (firm-is m settled y fits))) ∙ none
    where
      one : (a b : Bool) → a ≡ b → (a && true) ≡ b
      one true b e = e
      one false b e = e

  pub stretch-origin : (t : TimeParts) → look settled (limit.Below t) h.spans ≡ found.Origin → (sees m o t ≡ None) × (needs_stretch m o t (sees m o t) ≡ is_above t (latest (floor_of m) h.origin))
  stretch-origin t at =
      let s = subst (Says settled (limit.Below t) m o m) at (says (limit.Below t)) in
      let none : sees m o t ≡ None = sees-is m settled o t fits ∙ s.0 in (
        none,
        ap (needs_stretch m o t) none ∙ and_none (is_above t (latest (floor_of m) (stretched m o None))) (settled_over m o None) (over_none s.1)
            ∙ ap (λ e. is_above t (latest (floor_of m) e)) (sym (is.origin s.1)),
      )

  pub read-origin : (t : TimeParts) → IsOnFloor m t → look settled (limit.Below t) h.spans ≡ found.Origin → read_step m o t ≡ read.Answer Nothing (is_above t (latest (floor_of m) h.origin))
  read-origin t on at = let s = stretch-origin t at in read-over m o t on ∙ ap (read_seen m o t) s.0 ∙ ap (λ b. read.Answer Nothing b) (sym (ap (needs_stretch m o t) s.0) ∙ s.1)

  pub stretch-shown : (t : TimeParts) (s : Span) → look settled (limit.Below t) h.spans ≡ found.Shown s → (q : Seen) × (sees m o t ≡ Some q) × (s.start ≡ q.start) × (needs_stretch m o t (sees m o t) ≡ is_above t (latest (floor_of m) (top s.start s.end)))
  stretch-shown t s at =
      let k = subst (Says settled (limit.Below t) m o m) at (says (limit.Below t)) in
      let some : sees m o t ≡ Some k.0 = sees-is m settled o t fits ∙ k.1 in (
        k.0,
        some,
        k.2,
        ap (needs_stretch m o t) some
            ∙ and_none (is_above t (reach m o (Some k.0))) (settled_over m o (Some k.0)) (some_put-same (λ y. is_committed (settle_of m y.stamp) && lt k.0.start y) (λ y. is_firm settled y && lt k.0.start y) o m (λ y. and_is (is_committed (settle_of m y.stamp)) (lt k.0.start y) (is_firm settled y) (lt k.0.start y) (sym (firm-is m settled y fits)) refl) ∙ k.4)
            ∙ ap (λ x. is_above t (latest (floor_of m) (top x (stretched m o (Some k.0.place))))) (sym k.2) ∙ ap (λ e. is_above t (latest (floor_of m) (top s.start e))) (sym k.3),
      )

  -- a version of another stamp that isn't settled is waited for
  pub read-waits : (t : TimeParts) (s : Span) → IsOnFloor m t → look settled (limit.Below t) h.spans ≡ found.Shown s → waits settled t.stamp s.start.stamp ≡ true → read_step m o t ≡ read.Wait s.start.stamp
  read-waits t s on at wait =
      let k = stretch-shown t s at in
      let w : waits settled t.stamp k.0.start.stamp ≡ true = ap (λ x. waits settled t.stamp x.stamp) (sym k.2) ∙ wait in
      read-over m o t on ∙ ap (read_seen m o t) k.1 ∙ seen_first t (needs_stretch m o t (Some k.0)) (Some k.0) refl
      ∙ ap (λ b. if b then read.Wait k.0.start.stamp else read.Answer k.0.value (needs_stretch m o t (Some k.0))) w ∙ ap (λ x. read.Wait x.stamp) (sym k.2)

  pub stretch-under : (t : TimeParts) → look settled (limit.Below t) h.spans ≡ found.Under → needs_stretch m o t (sees m o t) ≡ false
  stretch-under t at =
      let k = subst (Says settled (limit.Below t) m o m) at (says (limit.Below t)) in
      and_some (is_above t (reach m o (sees m o t))) (settled_over m o (sees m o t)) (over (sees m o t) (sees-passes m o t) k)
    where
      sees-passes : (m : List Mark) (o : ObjectId) (t : TimeParts) → Passes (λ x. lt x t && alive m x) (sees m o t)
      sees-passes m o t = scan-passes (λ x. lt x t && alive m x) o m

      over : (r : Option Seen) → Passes (λ x. lt x t && alive m x) r → some_put (λ y. is_firm settled y && not (lt y t)) o m ≡ true → settled_over m o r ≡ true
      over None p k =
          some_put-more (λ y. is_firm settled y && not (lt y t)) (λ y. is_committed (settle_of m y.stamp) && true) o m
          (λ y e. let z = not_parts (is_firm settled y) (lt y t) e in both_true (is_committed (settle_of m y.stamp)) true (sym (firm-is m settled y fits) ∙ z.0) refl) k
      over (Some q) p k =
          some_put-more (λ y. is_firm settled y && not (lt y t)) (λ y. is_committed (settle_of m y.stamp) && lt q.start y) o m
          (λ y e.
          let z = not_parts (is_firm settled y) (lt y t) e in
          both_true (is_committed (settle_of m y.stamp)) (lt q.start y) (sym (firm-is m settled y fits) ∙ z.0) (lt-split q.start y t (and_parts (lt q.start t) (alive m q.start) p).0 z.1)) k

  -- ---- writes

  pub write-origin : (t : TimeParts) → look settled limit.All h.spans ≡ found.Origin → write_reach t (latest (floor_of m) h.origin) ≡ write_newest t (newest m o) (reach m o (newest m o))
  write-origin t at =
      let k = subst (Says settled limit.All m o m) at (says limit.All) in
      ap (λ e. write_reach t (latest (floor_of m) e)) (is.origin k.1) ∙ sym (ap (λ r. write_newest t r (reach m o r)) (newest-is m settled o fits ∙ k.0))

  pub write-shown : (t : TimeParts) (s : Span) → look settled limit.All h.spans ≡ found.Shown s → (if lt s.start t then write_reach t (latest (floor_of m) (top s.start s.end)) else write.LaterVersion s.start) ≡ write_newest t (newest m o) (reach m o (newest m o))
  write-shown t s at =
      let k = subst (Says settled limit.All m o m) at (says limit.All) in
      ap (λ x. if lt x t then write_reach t (latest (floor_of m) (top x s.end)) else write.LaterVersion x) k.2
      ∙ ap (λ e. if lt k.0.start t then write_reach t (latest (floor_of m) (top k.0.start e)) else write.LaterVersion k.0.start) k.3
      ∙ sym (ap (λ r. write_newest t r (reach m o r)) (newest-is m settled o fits ∙ k.1))

  never : (b c : Bool) (s : Span) (rest : Look) → (rest ≡ found.Under → ⊥) → looked b true c s rest ≡ found.Under → ⊥
  never true c s rest again e = cc e
  never false c s rest again e = again e

  pub look-all : (ss : List Span) → look settled limit.All ss ≡ found.Under → ⊥
  unfolding look
  look-all [] e = cc e
  look-all (s ∷ ss) e = never (is_living settled s.start) (is_firm settled s.start) s (look settled limit.All ss) (look-all ss) e

-- what is put lies above every living version
pub puts-rise : (settled : Settled) (m : List Mark) (o : ObjectId) (t : TimeParts) → Fits m settled → write_newest t (newest m o) (reach m o (newest m o)) ≡ write.Put → Starts (λ y. is_living settled y ≡ true → lt y t ≡ true) o m
puts-rise settled m o t fits put = low-all (λ y. is_living settled y) o m t (low (scan (λ y. is_living settled y) o m) (same ∙ put))
  where
    same : write_newest t (scan (λ y. is_living settled y) o m) (reach m o (scan (λ y. is_living settled y) o m)) ≡ write_newest t (newest m o) (reach m o (newest m o))
    same = ap (λ r. write_newest t r (reach m o r)) (sym (newest-living m settled o fits))

    low : (r : Option Seen) → write_newest t r (reach m o r) ≡ write.Put → Low r t
    low None is = tt
    low (Some q) is = at (lt q.start t) refl is
      where
        at : (b : Bool) → lt q.start t ≡ b → (if b then write_reach t (reach m o (Some q)) else write.LaterVersion q.start) ≡ write.Put → lt q.start t ≡ true
        at true e is = e
        at false e is = absurd (cc is)

-- ---- writes that stand

no-more : (settled : Settled) (o : ObjectId) (t y : TimeParts) (v : Value) (m : List Mark) → Starts (λ x. is_living settled x ≡ true → lt x y ≡ true) o m → is_living settled t ≡ true → lt t y ≡ false → has_put o t v m ≡ false
unfolding has_put
no-more settled o t y v [] low living above = refl
no-more settled o t y v (Put a x w ∷ m) low living above = at (same_object a o) (same_time x t) refl refl (no-more settled o t y v m low.1 living above)
  where
    at : (b c : Bool) → same_object a o ≡ b → same_time x t ≡ c → has_put o t v m ≡ false → ((b && (c && same_value w v)) || has_put o t v m) ≡ false
    at true true e f again = absurd (true≢false (sym (subst (λ z. lt z y ≡ true) (same_time-is x t f) (low.0 (same_object-is a o e) (subst (λ z. is_living settled z ≡ true) (sym (same_time-is x t f)) living))) ∙ above))
    at true false e f again = again
    at false c e f again = again
no-more settled o t y v (Stretch a x ∷ m) low living above = no-more settled o t y v m low living above
no-more settled o t y v (Settle s c ∷ m) low living above = no-more settled o t y v m low living above
no-more settled o t y v (Floor z ∷ m) low living above = no-more settled o t y v m low living above

or_false : (a b : Bool) → b ≡ false → (a || b) ≡ a
or_false true b h = refl
or_false false b h = h

pass_case : (l t v h : Bool) → (l ≡ true → h ≡ false) → (t ≡ true → l ≡ true) → (l && ((t && v) || h)) ≡ (t && v)
pass_case true t v h none alike = or_false (t && v) h (none refl)
pass_case false true v h none alike = absurd (false≢true (alike refl))
pass_case false false v h none alike = refl

skip_case : (l t v h : Bool) → (t ≡ true → l ≡ false) → (l && ((t && v) || h)) ≡ (l && h)
skip_case false t v h off = refl
skip_case true false v h off = refl
skip_case true true v h off = absurd (true≢false (off refl))

-- a version with this start and value stands where the newest one up to that time has both
pub stands-first : (settled : Settled) (o : ObjectId) (t : TimeParts) (v : Value) (m : List Mark) → Rising settled o m → (is_living settled t && has_put o t v m) ≡ is_written t v (first_put (passes settled (limit.UpTo t)) o m)
unfolding has_put first_put
stands-first settled o t v [] rising = off (is_living settled t)
  where
    off : (b : Bool) → (b && false) ≡ false
    off true = refl
    off false = refl
stands-first settled o t v (Put a x w ∷ m) rising = own (same_object a o) (passes settled (limit.UpTo t) x) refl refl (stands-first settled o t v m rising.1)
  where
    own : (b c : Bool) → same_object a o ≡ b → passes settled (limit.UpTo t) x ≡ c → (is_living settled t && has_put o t v m) ≡ is_written t v (first_put (passes settled (limit.UpTo t)) o m) →
        (is_living settled t && ((b && (same_time x t && same_value w v)) || has_put o t v m)) ≡ is_written t v (if b && c then Some (x, w) else first_put (passes settled (limit.UpTo t)) o m)
    own false c e f again = again
    own true true e f again =
        let k = not_parts (is_living settled x) (lt t x) f in
        pass_case (is_living settled t) (same_time x t) (same_value w v) (has_put o t v m)
        (λ living. no-more settled o t x v m (rising.0 e) living k.1)
        (λ at. subst (λ z. is_living settled z ≡ true) (same_time-is x t at) k.0)
    own true false e f again =
        skip_case (is_living settled t) (same_time x t) (same_value w v) (has_put o t v m)
        (λ at. dead (is_living settled t) (lt t t) (lt-irreflexive t) (subst (λ z. (is_living settled z && not (lt t z)) ≡ false) (same_time-is x t at) f)) ∙ again
      where
        dead : (a b : Bool) → b ≡ false → (a && not b) ≡ false → a ≡ false
        dead a true h k = absurd (true≢false h)
        dead true false h k = absurd (true≢false k)
        dead false false h k = refl
stands-first settled o t v (Stretch a x ∷ m) rising = stands-first settled o t v m rising
stands-first settled o t v (Settle s c ∷ m) rising = stands-first settled o t v m rising
stands-first settled o t v (Floor z ∷ m) rising = stands-first settled o t v m rising

pub stands-is : (settled : Settled) (m : List Mark) (o : ObjectId) (t : TimeParts) (v : Value) → Fits m settled → Rising settled o m → stands_written m o t v ≡ is_written t v (first_put (passes settled (limit.UpTo t)) o m)
stands-is settled m o t v fits rising = ap (λ b. b && has_put o t v m) (sym (living-is m settled t fits)) ∙ stands-first settled o t v m rising

-- ---- whether one may stand, by the header

module _ (settled : Settled) (m : List Mark) (o : ObjectId) (h : HeadParts) (fits : Fits m settled) (rising : Rising settled o m) (is : IsHead settled m o h) where
  up : (t : TimeParts) → first_put (passes settled (limit.UpTo t)) o m ≡ shown (scan (passes settled (limit.UpTo t)) o m)
  up t = first-scan settled (passes settled (limit.UpTo t)) o m (passes-lives settled (limit.UpTo t)) rising

  pub absent-origin : (t : TimeParts) (v : Value) → look settled (limit.UpTo t) h.spans ≡ found.Origin → stands_written m o t v ≡ false
  absent-origin t v at =
      let k = subst (Says settled (limit.UpTo t) m o m) at (says settled m o h fits rising is (limit.UpTo t)) in
      stands-is settled m o t v fits rising ∙ ap (is_written t v) (up t ∙ ap shown k.0)

  pub absent-shown : (t : TimeParts) (v : Value) (s : Span) → look settled (limit.UpTo t) h.spans ≡ found.Shown s → same_time s.start t ≡ false → stands_written m o t v ≡ false
  absent-shown t v s at apart =
      let k = subst (Says settled (limit.UpTo t) m o m) at (says settled m o h fits rising is (limit.UpTo t)) in
      stands-is settled m o t v fits rising ∙ ap (is_written t v) (up t ∙ ap shown k.1) ∙ ap (λ b. b && same_value k.0.value v) (ap (λ x. same_time x t) (sym k.2) ∙ apart)

-- no version of a dead attempt stands
pub absent-dead : (settled : Settled) (m : List Mark) (o : ObjectId) (t : TimeParts) (v : Value) → Fits m settled → is_living settled t ≡ false → stands_written m o t v ≡ false
absent-dead settled m o t v fits dead = ap (λ b. b && has_put o t v m) (sym (living-is m settled t fits) ∙ dead)

-- ---- late marks and those of the store

pub first-append : (ok : TimeParts → Bool) (o : ObjectId) (a b : List Mark) → first_put ok o (a ++ b) ≡ first (first_put ok o a) (first_put ok o b)
unfolding first_put
first-append ok o [] b = refl
first-append ok o (Put c x v ∷ a) b = one (same_object c o && ok x) (first-append ok o a b)
  where
    one : (z : Bool) → first_put ok o (a ++ b) ≡ first (first_put ok o a) (first_put ok o b) → (if z then Some (x, v) else first_put ok o (a ++ b)) ≡ first (if z then Some (x, v) else first_put ok o a) (first_put ok o b)
    one true again = refl
    one false again = again
first-append ok o (Stretch c x ∷ a) b = first-append ok o a b
first-append ok o (Settle s c ∷ a) b = first-append ok o a b
first-append ok o (Floor z ∷ a) b = first-append ok o a b

pub late-hit : (ok : TimeParts → Bool) (o : ObjectId) (a b : List Mark) (r : Option (TimeParts × Value)) (f : TimeParts × Value) → r ≡ first_put ok o a → r ≡ Some f → Some f ≡ first_put ok o (a ++ b)
late-hit ok o a b r f is some = sym (first-append ok o a b ∙ ap (λ z. first z (first_put ok o b)) (sym is ∙ some))

pub late-miss : (ok : TimeParts → Bool) (o : ObjectId) (a b : List Mark) (r s : Option (TimeParts × Value)) → r ≡ first_put ok o a → r ≡ None → s ≡ first_put ok o b → s ≡ first_put ok o (a ++ b)
late-miss ok o a b r s is none found = found ∙ sym (first-append ok o a b ∙ ap (λ z. first z (first_put ok o b)) (sym is ∙ none))
