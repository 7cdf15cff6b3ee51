-- The joined marks have no floor; and where no version is told as undecided, none is.
use Rattle.archive_store.proofs.Names.{◌≡◌, ℕ, zero, suc, ◌+◌, arith, Bool, true, false, List, [], ◌∷◌, ◌++◌, map, filter, reverse, length, slice_index_or, refl, sym, ◌∙◌, ap, Option, Some, None, ◌&&◌, ◌||◌, not, if◌then◌else◌, true≢false, false≢true, reverse-append, Every, TimeParts, lt, ObjectId, Mark, Put, Stretch, Settle, Floor, same_object, settle_of, is_settled, top, floor_of, some_put, Start, is_new, firsts, met_after, all_firsts, is_floor, given_up, joined_with, last_log, is_open, lesser, is_unsettled, first_among, first_open}
use Rattle.pseudo_time.specs.StampParts.{StampParts}

-- ---- no floor

abbrev IsPlain : Mark → Type 0
IsPlain f = is_floor f ≡ false

abbrev is_none : {A : Type 0} → Option A → Bool
is_none None = true
is_none (Some a) = false

top-some : (x : TimeParts) (r : Option TimeParts) → is_none (top x r) ≡ false
top-some x None = refl
top-some x (Some y) = either (lt x y)
  where
    either : (b : Bool) → is_none (if b then Some y else Some x) ≡ false
    either true = refl
    either false = refl

pub floor-both : (xs ys : List Mark) → floor_of xs ≡ None → floor_of ys ≡ None → floor_of (xs ++ ys) ≡ None
unfolding floor_of
floor-both [] ys h k = k
floor-both (Put o x v ∷ xs) ys h k = floor-both xs ys h k
floor-both (Stretch o x ∷ xs) ys h k = floor-both xs ys h k
floor-both (Settle s c ∷ xs) ys h k = floor-both xs ys h k
floor-both (Floor x ∷ xs) ys h k = absurd (false≢true (sym (top-some x (floor_of xs)) ∙ ap is_none h))

floor-one : (f : Mark) → IsPlain f → floor_of (f ∷ []) ≡ None
unfolding floor_of
floor-one (Put o x v) h = refl
floor-one (Stretch o x) h = refl
floor-one (Settle s c) h = refl
floor-one (Floor x) h = absurd (true≢false h)

floor-reverse : (xs : List Mark) → Every IsPlain xs → floor_of (reverse xs) ≡ None
unfolding floor_of
floor-reverse [] h = refl
floor-reverse (f ∷ xs) h = ap floor_of (reverse-append (f ∷ []) xs) ∙ floor-both (reverse xs) (f ∷ []) (floor-reverse xs h.1) (floor-one f h.0)

every-append : (xs ys : List Mark) → Every IsPlain xs → Every IsPlain ys → Every IsPlain (xs ++ ys)
every-append [] ys h k = k
every-append (x ∷ xs) ys h k = (h.0, every-append xs ys h.1 k)

every-if : (b : Bool) (f : Mark) (xs ys : List Mark) → (b ≡ true → IsPlain f) → Every IsPlain xs → Every IsPlain ys → Every IsPlain (if b then f ∷ xs else ys)
every-if true f xs ys h k l = (h refl, k)
every-if false f xs ys h k l = l

new-plain : (floor : Option TimeParts) (met : List Mark) (f : Mark) → is_new floor met f ≡ true → IsPlain f
new-plain floor met (Put o x v) h = refl
new-plain floor met (Stretch o x) h = refl
new-plain floor met (Settle s c) h = refl
new-plain floor met (Floor x) h = absurd (false≢true h)

every-firsts : (floor : Option TimeParts) (met fs : List Mark) → Every IsPlain (firsts floor met fs)
unfolding firsts
every-firsts floor met [] = tt
every-firsts floor met (f ∷ fs) = every-if (is_new floor met f) f (firsts floor (f ∷ met) fs) (firsts floor met fs) (new-plain floor met f) (every-firsts floor (f ∷ met) fs) (every-firsts floor met fs)

every-all : (floor : Option TimeParts) (met : List Mark) (logs : List (List Mark)) → Every IsPlain (all_firsts floor met logs)
unfolding all_firsts
every-all floor met [] = tt
every-all floor met (log ∷ logs) = every-append (firsts floor met log) (all_firsts floor (met_after floor met log) logs) (every-firsts floor met log) (every-all floor (met_after floor met log) logs)

not-yes : (b : Bool) → not b ≡ true → b ≡ false
not-yes true h = absurd (false≢true h)
not-yes false h = refl

every-kept : (fs : List Mark) → Every IsPlain (filter (λ f. not (is_floor f)) fs)
every-kept [] = tt
every-kept (f ∷ fs) = every-if (not (is_floor f)) f (filter (λ z. not (is_floor z)) fs) (filter (λ z. not (is_floor z)) fs) (not-yes (is_floor f)) (every-kept fs) (every-kept fs)

pub joined-unretired : (logs : List (List Mark)) (last marks : List Mark) → marks ≡ joined_with logs last → floor_of (reverse marks) ≡ None
joined-unretired logs last marks e =
    ap (λ z. floor_of (reverse z)) e
    ∙ floor-reverse (joined_with logs last) (every-append (given_up logs last) (filter (λ f. not (is_floor f)) last) (every-all (floor_of (reverse last)) (reverse last) logs) (every-kept last))

-- ---- nothing is undecided

none-if : (b : Bool) (s : Start) (r : Option Start) → (if b then Some s else r) ≡ None → (b ≡ false) × (r ≡ None)
none-if true s r h = absurd (false≢true (ap is_none h))
none-if false s r h = (refl, h)

none-put : (e b r : Bool) → b ≡ false → r ≡ false → ((e && (b && true)) || r) ≡ false
none-put true true r h k = absurd (true≢false h)
none-put true false r h k = k
none-put false b r h k = k

none-open : (settled : StampParts → Option Bool) (t : TimeParts) (m : List Mark) (o : ObjectId) → first_among settled t m ≡ None → some_put (λ x. (lt x t && not (is_settled (settled x.stamp))) && true) o m ≡ false
unfolding first_among some_put
none-open settled t [] o h = refl
none-open settled t (Put a x v ∷ m) o h =
    let n = none-if (is_unsettled settled t x) (lesser (record { object = a; start = x }) (first_among settled t m)) (first_among settled t m) h in
    none-put (same_object a o) (is_unsettled settled t x) (some_put (λ y. (lt y t && not (is_settled (settled y.stamp))) && true) o m) n.0 (none-open settled t m o n.1)
none-open settled t (Stretch a x ∷ m) o h = none-open settled t m o h
none-open settled t (Settle s c ∷ m) o h = none-open settled t m o h
none-open settled t (Floor z ∷ m) o h = none-open settled t m o h

pub closed-by : (m : List Mark) (t : TimeParts) (r : Option Start) → r ≡ first_open m t → r ≡ None → (o : ObjectId) → is_open m o t (λ x. true) ≡ false
closed-by m t r e h o = none-open (settle_of m) t m o (sym e ∙ h)

-- ---- the last log

pub last-is : {A : Type 0} (f : A → List Mark) (ls : List A) (i : ℕ) (x : A) → i + 1 ≡ length ls → x ≡ slice_index_or ls i x → last_log (map f ls) ≡ f x
unfolding last_log
last-is f [] i x e is = absurd (omega arith)
last-is f (l ∷ []) zero x e is = ap f (sym is)
last-is f (l ∷ []) (suc i) x e is = absurd (omega arith)
last-is f (l ∷ k ∷ ls) zero x e is = absurd (omega arith)
last-is f (l ∷ k ∷ ls) (suc i) x e is = last-is f (k ∷ ls) i x (omega arith) is

pub joined-last : (all self : List (List Mark)) (last found : List Mark) → all ≡ self → last ≡ found → last_log all ≡ found → joined_with all last ≡ joined_with self (last_log self)
joined-last all self last found e h k = ap (joined_with all) (h ∙ sym k) ∙ ap (λ z. joined_with z (last_log z)) e

pub unretired-as : (logs : List (List Mark)) (marks shown : List Mark) → marks ≡ joined_with logs (last_log logs) → shown ≡ marks → floor_of (reverse shown) ≡ None
unretired-as logs marks shown e h = joined-unretired logs (last_log logs) shown (h ∙ e)

pub closed-as : (marks shown seen : List Mark) (t : TimeParts) (r : Option Start) → shown ≡ marks → seen ≡ marks → r ≡ first_open (reverse seen) t → r ≡ None → (o : ObjectId) → is_open (reverse shown) o t (λ x. true) ≡ false
closed-as marks shown seen t r h k e n o = closed-by (reverse shown) t r (e ∙ ap (λ z. first_open (reverse z) t) (k ∙ sym h)) n o
