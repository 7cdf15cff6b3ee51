-- The joined marks of volumes: which versions they have, each once, and how they settle attempts.
use Rattle.std.proofs.lemmas.List.Elements.{filter-append}
use Rattle.archive_law.proofs.Names.{Every, Has, same_stamp, same_time, StampParts, TimeParts, has-either, has-left, has-reverse, has-right, ObjectId, Value, Mark, Put, Settle, Floor, same_object, floor_of, settle_of, Distinct, Starts, and-both, and-left, and-right, same_object-is, same_object-of, starts-has, is_under, all_firsts, firsts, has_start, joined, last_log, met_after, ◌≡◌, ◌≢◌, Bool, true, false, List, [], ◌∷◌, ◌++◌, filter, reverse, refl, sym, ◌∙◌, ap, subst, Option, None, ◌&&◌, not, if◌then◌else◌, ◌⊎◌, inl, inr, append_assoc, true≢false, false≢true, or_left, or_right, or_cases, reverse-append, reverse-reverse, every-reverse, same_time-is, same_time-of, or_else, given_up, is_floor, is_new}

-- ---- versions apart

-- no version of one list has the object and start of one of the other
abbrev pub Away : List Mark → List Mark → Type 0
Away a b = (o : ObjectId) (x : TimeParts) (v w : Value) → Has (Put o x v) a → Has (Put o x w) b → ⊥

-- a fact of each version, as one of each start
pub starts-from : (P : TimeParts → Type 0) (o : ObjectId) (m : List Mark) → ((x : TimeParts) (w : Value) → Has (Put o x w) m → P x) → Starts P o m
starts-from P o [] h = tt
starts-from P o (Put a x v ∷ m) h = (λ e. h x v (inl (ap (λ z. Put z x v) e)), starts-from P o m (λ y w j. h y w (inr j)))
starts-from P o (_ ∷ m) h = starts-from P o m (λ y w j. h y w (inr j))

distinct-append : (a b : List Mark) → Distinct a → Distinct b → Away a b → Distinct (a ++ b)
distinct-append [] b d e h = e
distinct-append (Put o x v ∷ a) b d e h = (
  starts-from (λ y. y ≢ x) o (a ++ b) (λ y w j. elim (has-either a b (Put o y w) j) [
    | inl k ↦ starts-has (λ z. z ≢ x) o a y w d.0 k
    | inr k ↦ (λ same. h o x v w (inl refl) (subst (λ z. Has (Put o z w) b) same k))
  ]),
  distinct-append a b d.1 e (λ p y u w j k. h p y u w (inr j) k),
)
distinct-append (_ ∷ a) b d e h = distinct-append a b d e (λ p y u w j k. h p y u w (inr j) k)

starts-left : (P : TimeParts → Type 0) (o : ObjectId) (a b : List Mark) → Starts P o (a ++ b) → Starts P o a
starts-left P o a b h = starts-from P o a (λ x w j. starts-has P o (a ++ b) x w h (has-left a b (Put o x w) j))

distinct-left : (a b : List Mark) → Distinct (a ++ b) → Distinct a
distinct-left [] b d = tt
distinct-left (Put o x v ∷ a) b d = (starts-left (λ y. y ≢ x) o a b d.0, distinct-left a b d.1)
distinct-left (_ ∷ a) b d = distinct-left a b d

away-of : (a b : List Mark) → Distinct (a ++ b) → Away a b
away-of [] b d p y u w j k = j
away-of (Put o x v ∷ a) b d p y u w (inl e) k =
    let q : o ≡ p = cc e in
    let t : x ≡ y = cc e in
    starts-has (λ z. z ≢ x) p (a ++ b) y w (subst (λ z. Starts (λ i. i ≢ x) z (a ++ b)) q d.0) (has-right a b (Put p y w) k) (sym t)
away-of (Put o x v ∷ a) b d p y u w (inr j) k = away-of a b d.1 p y u w j k
away-of (_ ∷ a) b d p y u w (inl e) k = absurd (cc e)
away-of (_ ∷ a) b d p y u w (inr j) k = away-of a b d p y u w j k

-- ---- without floors

abbrev pub plain : List Mark → List Mark
plain m = filter (λ f. not (is_floor f)) m

plain-has : (m : List Mark) (o : ObjectId) (x : TimeParts) (v : Value) → Has (Put o x v) m → Has (Put o x v) (plain m)
plain-has [] o x v h = h
plain-has (Floor z ∷ m) o x v (inl e) = absurd (cc e)
plain-has (Floor z ∷ m) o x v (inr j) = plain-has m o x v j
plain-has (_ ∷ m) o x v (inl e) = inl e
plain-has (_ ∷ m) o x v (inr j) = inr (plain-has m o x v j)

has-plain : (m : List Mark) (f : Mark) → Has f (plain m) → Has f m
has-plain [] f h = h
has-plain (Floor z ∷ m) f j = inr (has-plain m f j)
has-plain (_ ∷ m) f (inl e) = inl e
has-plain (_ ∷ m) f (inr j) = inr (has-plain m f j)

distinct-plain : (m : List Mark) → Distinct m → Distinct (plain m)
distinct-plain [] d = tt
distinct-plain (Put o x v ∷ m) d = (starts-from (λ y. y ≢ x) o (plain m) (λ y w j. starts-has (λ z. z ≢ x) o m y w d.0 (has-plain m (Put o y w) j)), distinct-plain m d.1)
distinct-plain (_ ∷ m) d = distinct-plain m d

settle-plain : (m : List Mark) (s : StampParts) → settle_of (plain m) s ≡ settle_of m s
unfolding settle_of
settle-plain [] s = refl
settle-plain (Settle p c ∷ m) s = ap (λ u. if same_stamp p s then or_else u c else u) (settle-plain m s)
settle-plain (_ ∷ m) s = settle-plain m s

reverse-plain : (m : List Mark) → reverse (plain m) ≡ plain (reverse m)
reverse-plain [] = refl
reverse-plain (f ∷ m) = go (not (is_floor f)) refl ∙ sym (ap plain (reverse-append (f ∷ []) m) ∙ filter-append (λ g. not (is_floor g)) (reverse m) (f ∷ []) ∙ ap (λ z. z ++ plain (f ∷ [])) (sym (reverse-plain m)))
  where
    go : (b : Bool) → not (is_floor f) ≡ b → reverse (plain (f ∷ m)) ≡ reverse (plain m) ++ plain (f ∷ [])
    go b e = ap reverse ((elim f as (λ f. (m : List Mark) → plain (f ∷ m) ≡ plain (f ∷ []) ++ plain m) [ Put o x v ↦ λ m. refl | _ ↦ λ m. refl ]) m) ∙ reverse-append (plain (f ∷ [])) (plain m) ∙ ap (λ z. reverse (plain m) ++ z) (one f)
      where
        one : (f : Mark) → reverse (plain (f ∷ [])) ≡ plain (f ∷ [])
        one (Put o x v) = refl
        one _ = refl

-- ---- an object and start that was met

pub start-has : (o : ObjectId) (x : TimeParts) (m : List Mark) → has_start o x m ≡ true → (v : Value) × Has (Put o x v) m
unfolding has_start
start-has o x [] e = absurd (false≢true e)
start-has o x (Put a y v ∷ m) e = elim (or_cases (same_object a o && same_time y x) (has_start o x m) e) [
  | inl k ↦
      let p : a ≡ o = same_object-is a o (and-left (same_object a o) _ k) in
      let q : y ≡ x = same_time-is y x (and-right (same_object a o) _ k) in
      (v, inl (ap (λ z. Put z y v) p ∙ ap (λ z. Put o z v) q))
  | inr k ↦ let r = start-has o x m k in (r.0, inr r.1)
]
start-has o x (_ ∷ m) e = let r = start-has o x m e in (r.0, inr r.1)

pub has-start : (o : ObjectId) (x : TimeParts) (v : Value) (m : List Mark) → Has (Put o x v) m → has_start o x m ≡ true
unfolding has_start
has-start o x v [] h = absurd h
has-start o x v (Put a y w ∷ m) (inl e) = or_left (same_object a o && same_time y x) (has_start o x m) (and-both (same_object a o) (same_time y x) (same_object-of a o (cc e)) (same_time-of y x (cc e)))
has-start o x v (Put a y w ∷ m) (inr j) = or_right (same_object a o && same_time y x) (has_start o x m) (has-start o x v m j)
has-start o x v (_ ∷ m) (inl e) = absurd (cc e)
has-start o x v (_ ∷ m) (inr j) = has-start o x v m j

start-more : (o : ObjectId) (x : TimeParts) (f : Mark) (m : List Mark) → has_start o x m ≡ true → has_start o x (f ∷ m) ≡ true
start-more o x f m h = let k = start-has o x m h in has-start o x k.0 (f ∷ m) (inr k.1)

-- ---- what the last log gave up

not-yes : (b : Bool) → not b ≡ true → b ≡ false
not-yes true h = absurd (false≢true h)
not-yes false h = refl

-- each of these is new where those before it were met
abbrev Fresh : Option TimeParts → List Mark → List Mark → Type 0
Fresh floor met [] = Unit {0}
Fresh floor met (f ∷ fs) = (is_new floor met f ≡ true) × Fresh floor (f ∷ met) fs

fresh-firsts : (floor : Option TimeParts) (met log ys : List Mark) → Fresh floor (met_after floor met log) ys → Fresh floor met (firsts floor met log ++ ys)
unfolding firsts met_after
fresh-firsts floor met [] ys h = h
fresh-firsts floor met (f ∷ fs) ys h = go (is_new floor met f) refl (λ k. fresh-firsts floor (f ∷ met) fs ys k) (λ k. fresh-firsts floor met fs ys k) h
  where
    go : (b : Bool) → is_new floor met f ≡ b → (Fresh floor (met_after floor (f ∷ met) fs) ys → Fresh floor (f ∷ met) (firsts floor (f ∷ met) fs ++ ys)) →
        (Fresh floor (met_after floor met fs) ys → Fresh floor met (firsts floor met fs ++ ys)) →
        Fresh floor (if b then met_after floor (f ∷ met) fs else met_after floor met fs) ys → Fresh floor met ((if b then f ∷ firsts floor (f ∷ met) fs else firsts floor met fs) ++ ys)
    go true e new old k = (e, new k)
    go false e new old k = old k

fresh-all : (floor : Option TimeParts) (met : List Mark) (logs : List (List Mark)) → Fresh floor met (all_firsts floor met logs)
unfolding all_firsts
fresh-all floor met [] = tt
fresh-all floor met (log ∷ logs) = fresh-firsts floor met log (all_firsts floor (met_after floor met log) logs) (fresh-all floor (met_after floor met log) logs)

new-distinct : (floor : Option TimeParts) (met : List Mark) (f : Mark) → is_new floor met f ≡ true → Distinct met → Distinct (f ∷ met)
new-distinct floor met (Put o x v) h d = (
  starts-from (λ y. y ≢ x) o met (λ y w j same.
      true≢false (sym (has-start o x w met (subst (λ z. Has (Put o z w) met) same j)) ∙ not-yes (has_start o x met) (and-right (is_under floor x) _ h))),
  d,
)
new-distinct floor met _ h d = absurd (false≢true h)

turned : (f : Mark) (fs m : List Mark) → reverse (f ∷ fs) ++ m ≡ reverse fs ++ (f ∷ m)
turned f fs m = ap (λ z. z ++ m) (reverse-append (f ∷ []) fs) ∙ append_assoc (reverse fs) (f ∷ []) m

fresh-distinct : (floor : Option TimeParts) (met fs : List Mark) → Distinct met → Fresh floor met fs → Distinct (reverse fs ++ met)
fresh-distinct floor met [] d h = d
fresh-distinct floor met (f ∷ fs) d h = subst Distinct (sym (turned f fs met)) (fresh-distinct floor (f ∷ met) fs (new-distinct floor met f h.0 d) h.1)

abbrev IsPut : Mark → Type 0
IsPut (Put o x v) = Unit {0}
IsPut _ = ⊥

new-put : (floor : Option TimeParts) (met : List Mark) (f : Mark) → is_new floor met f ≡ true → IsPut f
new-put floor met (Put o x v) h = tt
new-put floor met _ h = absurd (false≢true h)

fresh-puts : (floor : Option TimeParts) (met fs : List Mark) → Fresh floor met fs → Every IsPut fs
fresh-puts floor met [] h = tt
fresh-puts floor met (f ∷ fs) h = (new-put floor met f h.0, fresh-puts floor (f ∷ met) fs h.1)

settle-puts : (fs : List Mark) (s : StampParts) → Every IsPut fs → settle_of fs s ≡ None
unfolding settle_of
settle-puts [] s h = refl
settle-puts (Put o x v ∷ fs) s h = settle-puts fs s h.1
settle-puts (_ ∷ fs) s h = absurd h.0

settle-front : (a b : List Mark) (s : StampParts) → settle_of b s ≡ None → settle_of (a ++ b) s ≡ settle_of a s
unfolding settle_of
settle-front [] b s h = h
settle-front (Settle p c ∷ a) b s h = ap (λ u. if same_stamp p s then or_else u c else u) (settle-front a b s h)
settle-front (_ ∷ a) b s h = settle-front a b s h

-- ---- where it came from

firsts-from : (floor : Option TimeParts) (met log : List Mark) (f : Mark) → Has f (firsts floor met log) → Has f log
unfolding firsts
firsts-from floor met [] f h = h
firsts-from floor met (g ∷ fs) f h = go (is_new floor met g) (λ k. firsts-from floor (g ∷ met) fs f k) (λ k. firsts-from floor met fs f k) h
  where
    go : (b : Bool) → (Has f (firsts floor (g ∷ met) fs) → Has f fs) → (Has f (firsts floor met fs) → Has f fs) → Has f (if b then g ∷ firsts floor (g ∷ met) fs else firsts floor met fs) → Has f (g ∷ fs)
    go true new old (inl e) = inl e
    go true new old (inr k) = inr (new k)
    go false new old k = inr (old k)

all-from : (floor : Option TimeParts) (met : List Mark) (logs : List (List Mark)) (f : Mark) → Has f (all_firsts floor met logs) → (log : List Mark) × Has log logs × Has f log
unfolding all_firsts
all-from floor met [] f h = absurd h
all-from floor met (log ∷ logs) f h = elim (has-either (firsts floor met log) (all_firsts floor (met_after floor met log) logs) f h) [
  | inl k ↦ (log, inl refl, firsts-from floor met log f k)
  | inr k ↦ let r = all-from floor (met_after floor met log) logs f k in (r.0, inr r.1, r.2)
]

-- ---- nothing below the floor is passed over

module _ (floor : Option TimeParts) (o : ObjectId) (x : TimeParts) where
  met-more : (met log : List Mark) → has_start o x met ≡ true → has_start o x (met_after floor met log) ≡ true
  unfolding met_after
  met-more met [] h = h
  met-more met (f ∷ fs) h = go (is_new floor met f) (met-more (f ∷ met) fs (start-more o x f met h)) (met-more met fs h)
    where
      go : (b : Bool) → has_start o x (met_after floor (f ∷ met) fs) ≡ true → has_start o x (met_after floor met fs) ≡ true → has_start o x (if b then met_after floor (f ∷ met) fs else met_after floor met fs) ≡ true
      go true new old = new
      go false new old = old

  old-start : (met : List Mark) (v : Value) → is_under floor x ≡ true → is_new floor met (Put o x v) ≡ false → has_start o x met ≡ true
  old-start met v under e = go (is_under floor x) (has_start o x met) under e
    where
      go : (a b : Bool) → a ≡ true → (a && not b) ≡ false → b ≡ true
      go true true h k = refl
      go true false h k = absurd (true≢false k)
      go false b h k = absurd (false≢true h)

  met-start : (met log : List Mark) (v : Value) → is_under floor x ≡ true → Has (Put o x v) log → has_start o x (met_after floor met log) ≡ true
  unfolding met_after
  met-start met [] v under h = absurd h
  met-start met (f ∷ fs) v under (inl e) = go (is_new floor met f) refl
    where
      go : (b : Bool) → is_new floor met f ≡ b → has_start o x (if b then met_after floor (f ∷ met) fs else met_after floor met fs) ≡ true
      go true new = met-more (f ∷ met) fs (has-start o x v (f ∷ met) (inl e))
      go false new = met-more met fs (old-start met v under (subst (λ z. is_new floor met z ≡ false) e new))
  met-start met (f ∷ fs) v under (inr k) = go (is_new floor met f) (met-start (f ∷ met) fs v under k) (met-start met fs v under k)
    where
      go : (b : Bool) → has_start o x (met_after floor (f ∷ met) fs) ≡ true → has_start o x (met_after floor met fs) ≡ true → has_start o x (if b then met_after floor (f ∷ met) fs else met_after floor met fs) ≡ true
      go true new old = new
      go false new old = old

  abbrev MetOr : List Mark → List Mark → Type 0
  MetOr met fs = (has_start o x met ≡ true) ⊎ ((w : Value) × Has (Put o x w) fs)

  start-from : (met log : List Mark) → has_start o x (met_after floor met log) ≡ true → MetOr met (firsts floor met log)
  unfolding firsts met_after
  start-from met [] h = inl h
  start-from met (f ∷ fs) h = go (is_new floor met f) (λ k. start-from (f ∷ met) fs k) (λ k. start-from met fs k) h
    where
      here : (w : Value) → Has (Put o x w) (f ∷ met) → MetOr met (f ∷ firsts floor (f ∷ met) fs)
      here w (inl e) = inr (w, inl e)
      here w (inr j) = inl (has-start o x w met j)

      newly : MetOr (f ∷ met) (firsts floor (f ∷ met) fs) → MetOr met (f ∷ firsts floor (f ∷ met) fs)
      newly (inl k) = let r = start-has o x (f ∷ met) k in here r.0 r.1
      newly (inr k) = inr (k.0, inr k.1)

      go : (b : Bool) → (has_start o x (met_after floor (f ∷ met) fs) ≡ true → MetOr (f ∷ met) (firsts floor (f ∷ met) fs)) → (has_start o x (met_after floor met fs) ≡ true → MetOr met (firsts floor met fs)) →
          has_start o x (if b then met_after floor (f ∷ met) fs else met_after floor met fs) ≡ true → MetOr met (if b then f ∷ firsts floor (f ∷ met) fs else firsts floor met fs)
      go true new old k = newly (new k)
      go false new old k = old k

  all-reach : (met : List Mark) (logs : List (List Mark)) (log : List Mark) (v : Value) → is_under floor x ≡ true → Has log logs → Has (Put o x v) log → MetOr met (all_firsts floor met logs)
  unfolding all_firsts
  all-reach met [] log v under h j = absurd h
  all-reach met (l ∷ logs) log v under (inl e) j = widen (start-from met l (met-start met l v under (subst (Has (Put o x v)) (sym e) j)))
    where
      widen : MetOr met (firsts floor met l) → MetOr met (firsts floor met l ++ all_firsts floor (met_after floor met l) logs)
      widen (inl k) = inl k
      widen (inr k) = inr (k.0, has-left (firsts floor met l) (all_firsts floor (met_after floor met l) logs) (Put o x k.0) k.1)
  all-reach met (l ∷ logs) log v under (inr h) j = later (all-reach (met_after floor met l) logs log v under h j)
    where
      widen : MetOr met (firsts floor met l) → MetOr met (firsts floor met l ++ all_firsts floor (met_after floor met l) logs)
      widen (inl k) = inl k
      widen (inr k) = inr (k.0, has-left (firsts floor met l) (all_firsts floor (met_after floor met l) logs) (Put o x k.0) k.1)

      later : MetOr (met_after floor met l) (all_firsts floor (met_after floor met l) logs) → MetOr met (firsts floor met l ++ all_firsts floor (met_after floor met l) logs)
      later (inl k) = widen (start-from met l k)
      later (inr k) = inr (k.0, has-right (firsts floor met l) (all_firsts floor (met_after floor met l) logs) (Put o x k.0) k.1)

-- ---- all together

last-is : (front : List (List Mark)) (last : List Mark) → last_log (front ++ last ∷ []) ≡ last
unfolding last_log
last-is [] last = refl
last-is (a ∷ []) last = refl
last-is (a ∷ (b ∷ front)) last = last-is (b ∷ front) last

-- the logs before the last one, and that, oldest mark first
module _ (front : List (List Mark)) (last : List Mark) where
  abbrev now : List Mark
  now = reverse last

  abbrev gone : List Mark
  gone = all_firsts (floor_of now) now (front ++ last ∷ [])

  joined-is : reverse (joined (front ++ last ∷ [])) ≡ plain now ++ reverse gone
  joined-is =
      ap (λ z. reverse (given_up (front ++ last ∷ []) z ++ plain z)) (last-is front last)
      ∙ reverse-append gone (plain last)
      ∙ ap (λ z. z ++ reverse gone) (reverse-plain last)

  its-fresh : Fresh (floor_of now) now gone
  its-fresh = fresh-all (floor_of now) now (front ++ last ∷ [])

  pub joined-distinct : Distinct now → Distinct (reverse (joined (front ++ last ∷ [])))
  joined-distinct d =
      let all : Distinct (reverse gone ++ now) = fresh-distinct (floor_of now) now gone d its-fresh in
      subst Distinct (sym joined-is)
      (distinct-append (plain now) (reverse gone) (distinct-plain now d) (distinct-left (reverse gone) now all)
      (λ o x v w j k. away-of (reverse gone) now all o x w v k (has-plain now (Put o x v) j)))

  pub joined-settles : (s : StampParts) → settle_of (reverse (joined (front ++ last ∷ []))) s ≡ settle_of now s
  joined-settles s =
      ap (λ z. settle_of z s) joined-is
      ∙ settle-front (plain now) (reverse gone) s (settle-puts (reverse gone) s (every-reverse IsPut gone (fresh-puts (floor_of now) now gone its-fresh)))
      ∙ settle-plain now s

  -- a version of the joined marks stands in one of the logs
  pub joined-from : (o : ObjectId) (x : TimeParts) (v : Value) → Has (Put o x v) (reverse (joined (front ++ last ∷ []))) → (log : List Mark) × Has log (front ++ last ∷ []) × Has (Put o x v) log
  joined-from o x v h = elim (has-either (plain now) (reverse gone) (Put o x v) (subst (Has (Put o x v)) joined-is h)) [
    | inl k ↦ (last, has-right front (last ∷ []) last (inl refl), subst (Has (Put o x v)) (reverse-reverse last) (has-reverse now (Put o x v) (has-plain now (Put o x v) k)))
    | inr k ↦
        all-from (floor_of now) now (front ++ last ∷ []) (Put o x v) (subst (Has (Put o x v)) (reverse-reverse gone) (has-reverse (reverse gone) (Put o x v) k))
  ]

  -- of a version of one of the logs that the last one has, or that lies below its floor, they have the object and start
  pub joined-some : (o : ObjectId) (x : TimeParts) (v : Value) (log : List Mark) → Has log (front ++ last ∷ []) → Has (Put o x v) log → Has (Put o x v) now ⊎ (is_under (floor_of now) x ≡ true) →
      (w : Value) × Has (Put o x w) (reverse (joined (front ++ last ∷ [])))
  joined-some o x v log h j (inl k) = (v, subst (Has (Put o x v)) (sym joined-is) (has-left (plain now) (reverse gone) (Put o x v) (plain-has now o x v k)))
  joined-some o x v log h j (inr under) = by (all-reach (floor_of now) o x now (front ++ last ∷ []) log v under h j)
    where
      by : MetOr (floor_of now) o x now gone → (w : Value) × Has (Put o x w) (reverse (joined (front ++ last ∷ [])))
      by (inl k) = let r = start-has o x now k in (r.0, subst (Has (Put o x r.0)) (sym joined-is) (has-left (plain now) (reverse gone) (Put o x r.0) (plain-has now o x r.0 r.1)))
      by (inr k) = (k.0, subst (Has (Put o x k.0)) (sym joined-is) (has-right (plain now) (reverse gone) (Put o x k.0) (has-reverse gone (Put o x k.0) k.1)))
