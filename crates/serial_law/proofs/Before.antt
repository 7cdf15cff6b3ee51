-- the map after the deeds of the committed stamps
use Rattle.serial_law.proofs.Names.{TimeParts, StampParts, ObjectId, Value, Nothing, Mark, Post, left_after, Seen, scan, same_stamp, stamp_lt, Answer, Got, Over, Stored, ToWrite, RunLogs, Try, all_deeds, before, committed, deed, deed_of, deed_stamps, finals, find, marks_at, written, RunFacts, asks, HasValue, Ends, Reads, Says, Tree, Writes, after, talked, Objects, object_cmp, value_at, Ending, Has, and-both, and-left, and-right, scan-passes, two-tests, Passes, same_stamp-is, same_stamp-of, ◌≡◌, ◌+◌, ◌≤◌, length, Bool, true, false, List, [], ◌∷◌, ◌++◌, refl, sym, ◌∙◌, ap, subst, Option, Some, None, ◌⊎◌, inl, inr, ◌&&◌, ◌||◌, arith, if◌then◌else◌, false≢true, true≢false, or_left, or_right, or_cases, after_deed, HoldsAll, HoldsBefore, unwrap_or}
use Rattle.serial_law.proofs.Settled.{at-home}
use Rattle.serial_law.proofs.Talking.{alone, kinds-all}
use Rattle.serial_law.proofs.Premises.{lone, put-at}
use Rattle.serial_law.proofs.Fold.{Deed, Holds, Grows, on, fold-step, own-deed}
use Rattle.serial_law.proofs.Given.{given-deed}
use Rattle.serial_law.proofs.Stamps.{InS, Rising, rising, listed-pass, put-listed}
use Rattle.std.specs.FinMap as finite
use Rattle.value_form.specs.declared.endings.Ending.TheVariants as ending
use Rattle.serial_law.proofs.Puts.{Picked, PutAt, picked, starts-of}
use Rattle.serial_law.proofs.Times.{stamp_lt-self, stamp_lt-trans}

if-same : (b : Bool) (T U : Try) (r : Option Try) → (if b then Some T else r) ≡ Some U → ((b ≡ true) × (T ≡ U)) ⊎ (r ≡ Some U)
if-same true T U r h = inl (refl, cc h)
if-same false T U r h = inr h

pub find-is : (s : StampParts) (ts : List Try) (T : Try) → find s ts ≡ Some T → Has T ts × (T.stamp ≡ s)
unfolding find
find-is s [] T h = absurd (cc h)
find-is s (U ∷ ts) T h =
    elim (if-same (same_stamp U.stamp s) U T (find s ts) h) [ inl e ↦ (inl e.1, ap (λ z. z.stamp) (sym e.1) ∙ same_stamp-is U.stamp s e.0) | inr e ↦ let w = find-is s ts T e in (inr w.0, w.1) ]

-- a script that has ended asks nothing
over-asks : (t : Tree) (ans : List Answer) (e : Ending) → (talked t ans).stop ≡ Over e → asks (after t ans) ≡ None
over-asks (Ends f) ans e h = refl
over-asks (Says v t) ans e h = over-asks t ans e h
over-asks (Reads o k) (Got v ∷ ans) e h = over-asks (k v) ans e h
over-asks (Reads o k) (Stored ∷ ans) e h = absurd (cc h)
over-asks _ [] e h = absurd (cc h)
over-asks (Writes o v t) (Stored ∷ ans) e h = over-asks t ans e h
over-asks (Writes o v t) (Got w ∷ ans) e h = absurd (cc h)

nil : (xs : List Answer) → xs ++ [] ≡ xs
nil [] = refl
nil (x ∷ xs) = ap (λ ys. x ∷ ys) (nil xs)

more : (xs ys : List Answer) (a : Answer) → length xs + 1 ≤ length (xs ++ (a ∷ ys))
more [] ys a = omega arith
more (x ∷ xs) ys a = let h = more xs ys a in omega (arith, h)

-- a committed try is whole
pub whole : (k : RunLogs) (ever : List Post) → RunFacts k ever → (T : Try) → Has T k.tries → committed k T.stamp ≡ true → (talked T.script T.answers).stop ≡ Over ending.Finished
whole k ever f T a c = (f.commit_asked T a (f.commit T.stamp (at-home k ever f T.stamp c))).0

-- its puts are answered
pub whole-puts : (k : RunLogs) (ever : List Post) → RunFacts k ever → (T : Try) → Has T k.tries → committed k T.stamp ≡ true →
    (o : ObjectId) (x : TimeParts) (w : Value) → PutAt o x w (marks_at k o) → x.stamp ≡ T.stamp → x.step ≤ length T.answers
whole-puts k ever f T a c o x w h e =
    let l = put-at k o x w h in
    let q = f.write_asked T x o w a (f.put o.repository o x w l.0 l.1).1 e in
    next q.0 q.1 q.2 q.3 q.4
  where
    next : (pre post : List Answer) → T.answers ≡ pre ++ post → x.step ≡ length pre + 1 → asks (after T.script pre) ≡ Some (ToWrite o w) → x.step ≤ length T.answers
    next pre [] e n q =
        let stop : asks (after T.script pre) ≡ None =
        ap (λ xs. asks (after T.script xs)) (sym (e ∙ nil pre)) ∙ over-asks T.script T.answers ending.Finished (whole k ever f T a c) in
        absurd (cc (sym q ∙ stop))
    next pre (b ∷ post) e n q = subst (λ xs. x.step ≤ length xs) (sym e) (omega (arith, n, more pre post b))

-- the deed of a committed stamp
deed-of : (k : RunLogs) (ever : List Post) → RunFacts k ever → (s : StampParts) → committed k s ≡ true → (m : Objects) → HoldsBefore k s m →
    (r : Option Try) → find s k.tries ≡ r → Deed (marks_at k) s m (after_deed (deed_of r (written k s)) m)
deed-of k ever f s c m h None e = given-deed k ever f s m
deed-of k ever f s c m h (Some T) e =
    let w = find-is s k.tries T e in
    let own : committed k T.stamp ≡ true = ap (λ z. committed k z) w.1 ∙ c in
    let l = lone k ever f T w.0 in
    let same = (alone T.script T.answers T.stamp (marks_at k) (committed k) l m (subst (λ z. HoldsBefore k z m) (sym w.1) h)).whole ending.Finished (whole k ever f T w.0 own) in
    let d : Deed (marks_at k) T.stamp m (left_after T.script T.answers m) =
    own-deed T.script T.answers T.stamp (marks_at k) (committed k) l (whole-puts k ever f T w.0 own) (kinds-all T.script T.answers T.stamp (marks_at k) (committed k) l) m in
    subst (λ n. Deed (marks_at k) s m n) (sym same.2) (subst (λ z. Deed (marks_at k) z m (left_after T.script T.answers m)) w.1 d)

-- two tests that agree on the puts
agree-one : (f g : StampParts → Bool) (o : ObjectId) (m : List Mark) → ((x : TimeParts) (v : Value) → PutAt o x v m → f x.stamp ≡ true → g x.stamp ≡ true) →
    (r : Option Seen) → Picked o m r → Passes (on f) r → Passes (on g) r
unfolding Picked
agree-one f g o m h None s p = tt
agree-one f g o m h (Some q) s p = h q.start q.value s p

agree : (f g : StampParts → Bool) (o : ObjectId) (m : List Mark) → ((x : TimeParts) (v : Value) → PutAt o x v m → f x.stamp ≡ true → g x.stamp ≡ true) →
    ((x : TimeParts) (v : Value) → PutAt o x v m → g x.stamp ≡ true → f x.stamp ≡ true) → scan (on g) o m ≡ scan (on f) o m
agree f g o m h j =
    two-tests (on f) (on g) o m (starts-of (λ x. on g x ≡ true → on f x ≡ true) o m j)
    (agree-one f g o m h (scan (on f) o m) (picked (on f) o m) (scan-passes (on f) o m))

holds-agree : (k : RunLogs) (f g : StampParts → Bool) (m : Objects) →
    ((o : ObjectId) (x : TimeParts) (v : Value) → PutAt o x v (marks_at k o) → f x.stamp ≡ true → g x.stamp ≡ true) →
    ((o : ObjectId) (x : TimeParts) (v : Value) → PutAt o x v (marks_at k o) → g x.stamp ≡ true → f x.stamp ≡ true) →
    Holds (marks_at k) f m → Holds (marks_at k) g m
holds-agree k f g m h j holds o = subst (λ r. HasValue r (value_at m o)) (sym (agree f g o (marks_at k o) (h o) (j o))) (holds o)

-- how far the fold has come: f are the stamps done, ss those to come, ok all of them
pub record Far (k : RunLogs) (ok f : StampParts → Bool) (ss : List StampParts) : Type 0 where
  pub sure : (x : StampParts) → ok x ≡ true → committed k x ≡ true
  pub down : (x y : StampParts) → committed k x ≡ true → stamp_lt x y ≡ true → ok y ≡ true → ok x ≡ true
  pub done : (x : StampParts) → f x ≡ true → ok x ≡ true
  pub low : (x y : StampParts) → f x ≡ true → InS ss y → stamp_lt x y ≡ true
  pub all : (o : ObjectId) (x : TimeParts) (v : Value) → PutAt o x v (marks_at k o) → ok x.stamp ≡ true → (f x.stamp ≡ true) ⊎ InS ss x.stamp
  pub pass : (y : StampParts) → InS ss y → ok y ≡ true
  pub rise : Rising ss

abbrev allow : (StampParts → Bool) → StampParts → StampParts → Bool
allow f s x = f x || same_stamp x s

allowed : (f : StampParts → Bool) (s x : StampParts) → allow f s x ≡ true → (f x ≡ true) ⊎ (x ≡ s)
allowed f s x h = elim (or_cases (f x) (same_stamp x s) h) [ inl e ↦ inl e | inr e ↦ inr (same_stamp-is x s e) ]

grows : (k : RunLogs) (ok f : StampParts → Bool) (s : StampParts) (ss : List StampParts) → Far k ok f (s ∷ ss) → Grows f (allow f s) s
grows k ok f s ss far = record {
  low = λ x h. far.low x s h (inl refl);
  more = λ x h. or_left (f x) (same_stamp x s) h;
  one = or_right (f s) (same_stamp s s) (same_stamp-of s s refl);
  only = λ x h n. elim (allowed f s x h) [ inl e ↦ e | inr e ↦ absurd (n e) ];
}

farther : (k : RunLogs) (ok f : StampParts → Bool) (s : StampParts) (ss : List StampParts) → Far k ok f (s ∷ ss) → Far k ok (allow f s) ss
farther k ok f s ss far = record {
  sure = far.sure;
  down = far.down;
  done = λ x h. elim (allowed f s x h) [ inl e ↦ far.done x e | inr e ↦ far.pass x (inl e) ];
  low = λ x y h j. elim (allowed f s x h) [ inl e ↦ far.low x y e (inr j) | inr e ↦ ap (λ z. stamp_lt z y) e ∙ far.rise.0 y j ];
  all = λ o x v p h. elim (far.all o x v p h) [
    | inl e ↦ inl (or_left (f x.stamp) (same_stamp x.stamp s) e)
    | inr (inl e) ↦ inl (or_right (f x.stamp) (same_stamp x.stamp s) (same_stamp-of x.stamp s e))
    | inr (inr j) ↦ inr j
  ];
  pass = λ y j. far.pass y (inr j);
  rise = far.rise.1;
}

-- what is done is what is committed below the next stamp
next-holds : (k : RunLogs) (ok f : StampParts → Bool) (s : StampParts) (ss : List StampParts) → Far k ok f (s ∷ ss) → (m : Objects) → Holds (marks_at k) f m → HoldsBefore k s m
next-holds k ok f s ss far m holds =
    holds-agree k f (λ x. stamp_lt x s && committed k x) m
    (λ o x v p h. and-both (stamp_lt x.stamp s) (committed k x.stamp) (far.low x.stamp s h (inl refl)) (far.sure x.stamp (far.done x.stamp h)))
    (λ o x v p h.
    let below : stamp_lt x.stamp s ≡ true = and-left (stamp_lt x.stamp s) _ h in
    let c : committed k x.stamp ≡ true = and-right (stamp_lt x.stamp s) _ h in
    elim (far.all o x v p (far.down x.stamp s c below (far.pass s (inl refl)))) [
      | inl e ↦ e
      | inr (inl e) ↦ absurd (true≢false (sym below ∙ ap (λ z. stamp_lt z s) e ∙ stamp_lt-self s))
      | inr (inr j) ↦ absurd (true≢false (sym (stamp_lt-trans x.stamp s x.stamp below (far.rise.0 x.stamp j)) ∙ stamp_lt-self x.stamp))
    ])
    holds

-- the fold
fold-all : (k : RunLogs) (ever : List Post) → RunFacts k ever → (ok f : StampParts → Bool) (ss : List StampParts) → Far k ok f ss → (m : Objects) →
    Holds (marks_at k) f m → Holds (marks_at k) ok (all_deeds k ss m)
unfolding all_deeds
fold-all k ever facts ok f [] far m holds =
    holds-agree k f ok m (λ o x v p h. far.done x.stamp h)
    (λ o x v p h. elim (far.all o x v p h) [ inl e ↦ e | inr j ↦ absurd j ]) holds
fold-all k ever facts ok f (s ∷ ss) far m holds =
    let d : Deed (marks_at k) s m (after_deed (deed k s) m) =
    deed-of k ever facts s (far.sure s (far.pass s (inl refl))) m (next-holds k ok f s ss far m holds) (find s k.tries) refl in
    fold-all k ever facts ok (allow f s) ss (farther k ok f s ss far) (after_deed (deed k s) m)
    (fold-step (marks_at k) f (allow f s) s (grows k ok f s ss far) m (after_deed (deed k s) m) d holds)

start : (k : RunLogs) (ok : StampParts → Bool) → ((x : StampParts) → ok x ≡ true → committed k x ≡ true) →
    ((x y : StampParts) → committed k x ≡ true → stamp_lt x y ≡ true → ok y ≡ true → ok x ≡ true) → Far k ok (λ x. false) (deed_stamps k ok)
start k ok h j = record {
  sure = h;
  down = j;
  done = λ x e. absurd (false≢true e);
  low = λ x y e i. absurd (false≢true e);
  all = λ o x v p e. inr (put-listed k ok o x v p e);
  pass = listed-pass k ok;
  rise = rising k ok;
}

none-one : (r : Option Seen) → Passes (on (λ x. false)) r → HasValue r Nothing
none-one None h = refl
none-one (Some q) h = absurd (false≢true h)

empty-holds : (k : RunLogs) → Holds (marks_at k) (λ x. false) finite.empty
empty-holds k o = subst (λ v. HasValue (scan (on (λ x. false)) o (marks_at k o)) v) (sym (ap (λ r. unwrap_or r Nothing) (finite.get-empty object_cmp o)))
    (none-one (scan (on (λ x. false)) o (marks_at k o)) (scan-passes (on (λ x. false)) o (marks_at k o)))

pub before-holds : (k : RunLogs) (ever : List Post) → RunFacts k ever → (s : StampParts) → HoldsBefore k s (before k s)
unfolding before
before-holds k ever facts s =
    let ok : StampParts → Bool = λ x. stamp_lt x s && committed k x in
    fold-all k ever facts ok (λ x. false) (deed_stamps k ok)
    (start k ok (λ x h. and-right (stamp_lt x s) _ h)
    (λ x y c below h. and-both (stamp_lt x s) (committed k x) (stamp_lt-trans x y s below (and-left (stamp_lt y s) _ h)) c))
    finite.empty (empty-holds k)

pub finals-hold : (k : RunLogs) (ever : List Post) → RunFacts k ever → HoldsAll k (finals k)
unfolding finals
finals-hold k ever facts =
    let ok : StampParts → Bool = λ x. committed k x in
    fold-all k ever facts ok (λ x. false) (deed_stamps k ok) (start k ok (λ x h. h) (λ x y c below h. c)) finite.empty (empty-holds k)
