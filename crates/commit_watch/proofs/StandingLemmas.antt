-- How the versions of an object stand, as the code keeps it, says what is folded and what is refused.
use Rattle.commit_watch.proofs.Names.{◌≡◌, ℕ, zero, suc, ◌+◌, ◌<◌, ◌≤◌, Bool, true, false, List, [], ◌∷◌, ◌++◌, map, filter, length, take, drop, refl, sym, ◌∙◌, ap, subst, Option, Some, None, ◌&&◌, ◌||◌, not, if◌then◌else◌, cond, slice_index_or, arith, Ok, unwrap_or, is_some, AllWithin, is_eq, get-insert, true≢false, false≢true, Every, StampParts, stamp_cmp, TimeParts, lt, same_stamp, lt-trans, lt-asymmetric, lt-split, stamp_cmp-total, same_stamp-is, ObjectId, Value, object_cmp, Mark, Put, Stretch, Settle, Floor, same_object, Seen, or_else, settle_of, is_settled, is_committed, version_count, floor_of, insert, listed, is_blocked, not-false, same_object-is, found_at, Puts, Version, Moved, Scan, moved_at, cursor_of, version_of, fresh, is_retired, unless_retired, moved_over, advanced, StandingParts, empty_standing, all_above, version_in, earlier, Terms, is_wanted, is_lost, put_of, with_version, standing_of, is_stopped, settled_in, stood, terms_in}
use Rattle.std.specs.FinMap as finite
use Rattle.std.proofs.lemmas.Cmp.{eq_by_cmp_equiv}
use Rattle.object_history.specs.Answers.{some_put}
use Rattle.object_history.specs.Kept.{Settled}
use Rattle.commit_watch.specs.declared.puts.Put as puts

-- ---- a version goes to its place

all-from : (x : TimeParts) (ws : List Version) → AllWithin (λ w. lt x w.start ≡ true) ws 0 (length ws) → all_above x ws ≡ true
unfolding all_above
all-from x [] h = refl
all-from x (w ∷ ws) h = both (lt x w.start) (all_above x ws) (h 0 w (omega arith) (omega arith)) (all-from x ws (λ k d l m. h (suc k) d (omega arith) (omega arith)))
  where
    both : (a b : Bool) → a ≡ true → b ≡ true → (a && b) ≡ true
    both true b h k = k
    both false b h k = absurd (false≢true h)

and-left-no : (a b : Bool) → a ≡ false → (a && b) ≡ false
and-left-no true b h = absurd (true≢false h)
and-left-no false b h = refl

and-right-no : (a b : Bool) → b ≡ false → (a && b) ≡ false
and-right-no true b h = h
and-right-no false b h = refl

not-all : (x : TimeParts) (ws : List Version) (q : ℕ) (d : Version) → q < length ws → lt x (slice_index_or ws q d).start ≡ false → all_above x ws ≡ false
unfolding all_above
not-all x [] q d l h = absurd (omega arith)
not-all x (w ∷ ws) zero d l h = and-left-no (lt x w.start) (all_above x ws) h
not-all x (w ∷ ws) (suc q) d l h = and-right-no (lt x w.start) (all_above x ws) (not-all x ws q d (omega arith) h)

pub place-in : (v : Version) (ws : List Version) (p : ℕ) → p ≤ length ws → AllWithin (λ w. lt v.start w.start ≡ true) ws p (length ws) →
    ((q : ℕ) (d : Version) → q + 1 ≡ p → lt v.start (slice_index_or ws q d).start ≡ false) → take p ws ++ v ∷ drop p ws ≡ version_in v ws
unfolding version_in all_above
place-in v [] zero l a s = refl
place-in v [] (suc p) l a s = absurd (omega arith)
place-in v (w ∷ ws) zero l a s =
    sym (ap (λ b. if b then v ∷ w ∷ ws else w ∷ version_in v ws) (whole (all-from v.start (w ∷ ws) a)))
  where
    whole : all_above v.start (w ∷ ws) ≡ true → (lt v.start w.start && all_above v.start ws) ≡ true
    whole h = h
place-in v (w ∷ ws) (suc p) l a s =
    ap (λ z. w ∷ z) (place-in v ws p (omega arith) (λ k d m n. a (suc k) d (omega arith) (omega arith)) (λ q d e. s (suc q) d (omega arith)))
    ∙ sym (ap (λ b. if b then v ∷ w ∷ ws else w ∷ version_in v ws) (one-below p l s))
  where
    one-below : (p : ℕ) → suc p ≤ length (w ∷ ws) → ((q : ℕ) (d : Version) → q + 1 ≡ suc p → lt v.start (slice_index_or (w ∷ ws) q d).start ≡ false) → (lt v.start w.start && all_above v.start ws) ≡ false
    one-below zero l s = and-left-no (lt v.start w.start) (all_above v.start ws) (s 0 w (omega arith))
    one-below (suc q) l s = and-right-no (lt v.start w.start) (all_above v.start ws) (not-all v.start ws q w (omega arith) (s (suc q) w (omega arith)))

pub place-us : (v : Version) (ws us : List Version) (p : ℕ) → us ≡ ws → p ≤ length us → AllWithin (λ w. lt v.start w.start ≡ true) us p (length us) →
    ((q : ℕ) (d : Version) → q + 1 ≡ p → lt v.start (slice_index_or us q d).start ≡ false) → take p ws ++ v ∷ drop p ws ≡ version_in v ws
place-us v ws us p e l a s = subst (λ z. take p z ++ v ∷ drop p z ≡ version_in v z) e (place-in v us p l a s)

-- ---- the map

put_case : (b : Bool) (found at_key : Option StandingParts) (f : StandingParts → StandingParts) (new : StandingParts) → (b ≡ true → found ≡ at_key) → new ≡ f (unwrap_or at_key empty_standing) →
    unwrap_or (cond b (Some new) found) empty_standing ≡ (if b then f (unwrap_or found empty_standing) else unwrap_or found empty_standing)
put_case true found at_key f new h is = is ∙ ap (λ z. f (unwrap_or z empty_standing)) (sym (h refl))
put_case false found at_key f new h is = refl

pub standings-put : (es fs : List (ObjectId × StandingParts)) (k : ObjectId) (f : StandingParts → StandingParts) (new : StandingParts) → Puts object_cmp k new es fs →
    new ≡ f (unwrap_or (found_at object_cmp es k) empty_standing) →
    (o : ObjectId) → unwrap_or (found_at object_cmp fs o) empty_standing ≡ (if same_object k o then f (unwrap_or (found_at object_cmp es o) empty_standing) else unwrap_or (found_at object_cmp es o) empty_standing)
unfolding same_object
standings-put es fs k f new puts is o =
    ap (λ z. unwrap_or z empty_standing) (puts o)
    ∙ put_case (is_eq (object_cmp k o)) (found_at object_cmp es o) (found_at object_cmp es k) f new (λ e. ap (found_at object_cmp es) (sym (same_object-is k o e))) is

-- ---- one mark more

if-eq : (a b : StandingParts) (t : Bool) (p : puts.Put) (v : Value) → a ≡ b → (if t then with_version p v a else a) ≡ (if t then with_version p v b else b)
if-eq a b t p v e = ap (λ z. if t then with_version p v z else z) e

pub standing-put : (t : Terms) (p : puts.Put) (a : ObjectId) (x : TimeParts) (v : Value) (m : List Mark) (old new : ObjectId → StandingParts) → p ≡ put_of t a x →
    ((o : ObjectId) → old o ≡ standing_of t o m) → ((o : ObjectId) → new o ≡ (if same_object p.object o then with_version p v (old o) else old o)) →
    (o : ObjectId) → new o ≡ standing_of t o (Put a x v ∷ m)
unfolding standing_of
standing-put t p a x v m old new is olds news o =
    news o ∙ if-eq (old o) (standing_of t o m) (same_object p.object o) p v (olds o)
    ∙ ap (λ (z : puts.Put). if same_object z.object o then with_version z v (standing_of t o m) else standing_of t o m) is

first_settle : (b : Bool) (c : Bool) (r u : Option Bool) → (b ≡ true → u ≡ None) → r ≡ u → cond b (Some c) r ≡ (if b then or_else u c else u)
first_settle true c r u h e = ap (λ z. or_else z c) (sym (h refl))
first_settle false c r u h e = e

later_settle : (b : Bool) (c d : Bool) (u : Option Bool) → (b ≡ true → u ≡ Some d) → u ≡ (if b then or_else u c else u)
later_settle true c d u h = h refl ∙ ap (λ z. or_else z c) (sym (h refl))
later_settle false c d u h = refl

pub settle-first : (m : List Mark) (old : Settled) (s : StampParts) (c : Bool) → ((p : StampParts) → finite.get old p ≡ settle_of m p) → finite.get old s ≡ None →
    (p : StampParts) → finite.get (finite.insert old s c) p ≡ settle_of (Settle s c ∷ m) p
unfolding settle_of same_stamp
settle-first m old s c is none p =
    get-insert stamp_cmp-total old s c p ∙ ap (λ b. cond b (Some c) (finite.get old p)) ((eq_by_cmp_equiv stamp_cmp-total).symm p s)
    ∙ first_settle (is_eq (stamp_cmp s p)) c (finite.get old p) (settle_of m p) (λ e. ap (settle_of m) (sym (same_stamp-is s p e)) ∙ sym (is s) ∙ none) (is p)

pub settle-again : (m : List Mark) (old : Settled) (s : StampParts) (c d : Bool) → ((p : StampParts) → finite.get old p ≡ settle_of m p) → finite.get old s ≡ Some d →
    (p : StampParts) → finite.get old p ≡ settle_of (Settle s c ∷ m) p
unfolding settle_of same_stamp
settle-again m old s c d is there p =
    is p ∙ later_settle (is_eq (stamp_cmp s p)) c d (settle_of m p) (λ e. ap (settle_of m) (sym (same_stamp-is s p e)) ∙ sym (is s) ∙ there)

pub none-of : (r : Option Bool) → is_some r ≡ false → r ≡ None
none-of None h = refl
none-of (Some d) h = absurd (true≢false h)

pub settle-known : (m : List Mark) (old : Settled) (s : StampParts) (c : Bool) (r : Option Bool) → ((p : StampParts) → finite.get old p ≡ settle_of m p) → r ≡ finite.get old s → is_some r ≡ true →
    (p : StampParts) → finite.get old p ≡ settle_of (Settle s c ∷ m) p
settle-known m old s c None is e h p = absurd (false≢true h)
settle-known m old s c (Some d) is e h p = settle-again m old s c d is (sym e) p

pub put-asked : {T : Type 0} (scan : Scan) (ws : List (Moved T)) (a : ObjectId) (x : TimeParts) (p : puts.Put) (cursor : Option TimeParts) →
    p ≡ record { object = a; start = x; settled = finite.get scan.settles x.stamp; is_wanted = is_wanted cursor scan.below x; is_lost = is_lost scan.floor cursor x } →
    cursor ≡ cursor_of (moved_at a ws) → p ≡ put_of (terms_in scan ws) a x
unfolding terms_in
put-asked scan ws a x p cursor is e =
    is ∙ ap (λ (z : Option TimeParts). record { object = a; start = x; settled = finite.get scan.settles x.stamp; is_wanted = is_wanted z scan.below x; is_lost = is_lost scan.floor z x }) e

-- ---- in rising start

abbrev pub Sorted : List Seen → Type 0
Sorted [] = Unit {0}
Sorted (q ∷ qs) = Every (λ p. lt p.start q.start ≡ false) qs × Sorted qs

every-map : (P Q : Seen → Type 0) → ((q : Seen) → P q → Q q) → (qs : List Seen) → Every P qs → Every Q qs
every-map P Q f [] h = tt
every-map P Q f (q ∷ qs) h = (f q h.0, every-map P Q f qs h.1)

every-if : (P : Seen → Type 0) (b : Bool) (q p : Seen) (ps qs : List Seen) → P q → P p → Every P ps → Every P qs → Every P (if b then q ∷ p ∷ ps else p ∷ qs)
every-if P true q p ps qs h k i j = (h, (k, i))
every-if P false q p ps qs h k i j = (k, j)

pub every-in : (P : Seen → Type 0) (q : Seen) (ps : List Seen) → P q → Every P ps → Every P (insert q ps)
unfolding insert
every-in P q [] h k = (h, tt)
every-in P q (p ∷ ps) h k = every-if P (lt q.start p.start) q p ps (insert q ps) h k.0 k.1 (every-in P q ps h k.1)

-- what isn't below p isn't below what lies below p
over-less : (q p r : TimeParts) → lt q p ≡ true → lt r p ≡ false → lt r q ≡ false
over-less q p r h k = not-false (lt r q) (λ e. true≢false (sym (lt-trans r q p e h) ∙ k))

above-less : (q p r : TimeParts) → lt q p ≡ true → lt r p ≡ false → lt q r ≡ true
above-less q p r h k = lt-split q r p h k

sorted-if : (b : Bool) (q p : Seen) (ps : List Seen) → lt q.start p.start ≡ b → Sorted (p ∷ ps) → Sorted (insert q ps) → Sorted (if b then q ∷ p ∷ ps else p ∷ insert q ps)
sorted-if true q p ps e h k = ((lt-asymmetric q.start p.start e, every-map (λ r. lt r.start p.start ≡ false) (λ r. lt r.start q.start ≡ false) (λ r l. over-less q.start p.start r.start e l) ps h.0), h)
sorted-if false q p ps e h k = (every-in (λ r. lt r.start p.start ≡ false) q ps e h.0, k)

sorted-insert : (q : Seen) (ps : List Seen) → Sorted ps → Sorted (insert q ps)
unfolding insert
sorted-insert q [] h = (tt, tt)
sorted-insert q (p ∷ ps) h = sorted-if (lt q.start p.start) q p ps refl h (sorted-insert q ps h.1)

sorted-of : (b : Bool) (xs ys : List Seen) → Sorted xs → Sorted ys → Sorted (if b then xs else ys)
sorted-of true xs ys h k = h
sorted-of false xs ys h k = k

pub sorted-listed : (f : TimeParts → Bool) (o : ObjectId) (m : List Mark) → Sorted (listed f o m)
unfolding listed
sorted-listed f o [] = tt
sorted-listed f o (Put a x v ∷ m) =
    sorted-of (same_object a o && f x) (insert (record { place = version_count o m; start = x; value = v }) (listed f o m)) (listed f o m) (sorted-insert (record { place = version_count o m; start = x; value = v }) (listed f o m) (sorted-listed f o m)) (sorted-listed f o m)
sorted-listed f o (Stretch a x ∷ m) = sorted-listed f o m
sorted-listed f o (Settle s c ∷ m) = sorted-listed f o m
sorted-listed f o (Floor z ∷ m) = sorted-listed f o m

-- ---- a part of a listing

abbrev keep : Bool → Seen → List Seen → List Seen
keep b q qs = if b then q ∷ qs else qs

every-keep : (P : Seen → Type 0) (b : Bool) (q : Seen) (qs : List Seen) → P q → Every P qs → Every P (keep b q qs)
every-keep P true q qs h k = (h, k)
every-keep P false q qs h k = k

every-filter : (P : Seen → Type 0) (p : Seen → Bool) (qs : List Seen) → Every P qs → Every P (filter p qs)
every-filter P p [] h = tt
every-filter P p (q ∷ qs) h = every-keep P (p q) q (filter p qs) h.0 (every-filter P p qs h.1)

insert-first : (q : Seen) (qs : List Seen) → Every (λ r. lt q.start r.start ≡ true) qs → insert q qs ≡ q ∷ qs
unfolding insert
insert-first q [] h = refl
insert-first q (p ∷ ps) h = ap (λ b. if b then q ∷ p ∷ ps else p ∷ insert q ps) h.0

keep-first : (b : Bool) (q : Seen) (qs : List Seen) → insert q qs ≡ q ∷ qs → keep b q qs ≡ (if b then insert q qs else qs)
keep-first true q qs h = sym h
keep-first false q qs h = refl

keep-behind : (b c : Bool) (q p : Seen) (qs : List Seen) → lt q.start p.start ≡ false → keep c p (if b then insert q qs else qs) ≡ (if b then insert q (keep c p qs) else keep c p qs)
unfolding insert
keep-behind true true q p qs e = sym (ap (λ t. if t then q ∷ p ∷ qs else p ∷ insert q qs) e)
keep-behind true false q p qs e = refl
keep-behind false c q p qs e = refl

filter-if : (p : Seen → Bool) (b : Bool) (q r : Seen) (rs : List Seen) → lt q.start r.start ≡ b → Sorted (r ∷ rs) → filter p (insert q rs) ≡ (if p q then insert q (filter p rs) else filter p rs) →
    filter p (if b then q ∷ r ∷ rs else r ∷ insert q rs) ≡ (if p q then insert q (keep (p r) r (filter p rs)) else keep (p r) r (filter p rs))
filter-if p true q r rs e h k =
    keep-first (p q) q (keep (p r) r (filter p rs)) (insert-first q (keep (p r) r (filter p rs))
    (every-keep (λ z. lt q.start z.start ≡ true) (p r) r (filter p rs) e
    (every-filter (λ z. lt q.start z.start ≡ true) p rs (every-map (λ z. lt z.start r.start ≡ false) (λ z. lt q.start z.start ≡ true) (λ z l. above-less q.start r.start z.start e l) rs h.0))))
filter-if p false q r rs e h k = ap (λ z. keep (p r) r z) k ∙ keep-behind (p q) (p r) q r (filter p rs) e

filter-insert : (p : Seen → Bool) (q : Seen) (rs : List Seen) → Sorted rs → filter p (insert q rs) ≡ (if p q then insert q (filter p rs) else filter p rs)
unfolding insert
filter-insert p q [] h = refl
filter-insert p q (r ∷ rs) h = filter-if p (lt q.start r.start) q r rs refl h (filter-insert p q rs h.1)

filter-put : (e f p : Bool) (xs ys zs ws : List Seen) → zs ≡ (if p then xs else ys) → ws ≡ ys → (if e && f then zs else ws) ≡ (if e && (f && p) then xs else ys)
filter-put true true true xs ys zs ws h k = h
filter-put true true false xs ys zs ws h k = h
filter-put true false p xs ys zs ws h k = k
filter-put false f p xs ys zs ws h k = k

filter-of : (p : Seen → Bool) (b : Bool) (xs ys : List Seen) → filter p (if b then xs else ys) ≡ (if b then filter p xs else filter p ys)
filter-of p true xs ys = refl
filter-of p false xs ys = refl

pub filter-listed : (p f : TimeParts → Bool) (o : ObjectId) (m : List Mark) → filter (λ q. p q.start) (listed f o m) ≡ listed (λ x. f x && p x) o m
unfolding listed
filter-listed p f o [] = refl
filter-listed p f o (Put a x v ∷ m) =
    let q : Seen = record { place = version_count o m; start = x; value = v } in
    let rest = filter-listed p f o m in
    filter-of (λ q. p q.start) (same_object a o && f x) (insert q (listed f o m)) (listed f o m)
    ∙ filter-put (same_object a o) (f x) (p x) (insert q (listed (λ y. f y && p y) o m)) (listed (λ y. f y && p y) o m) (filter (λ q. p q.start) (insert q (listed f o m))) (filter (λ q. p q.start) (listed f o m))
    (filter-insert (λ q. p q.start) q (listed f o m) (sorted-listed f o m) ∙ ap (λ z. if p x then insert q z else z) rest) rest
filter-listed p f o (Stretch a x ∷ m) = filter-listed p f o m
filter-listed p f o (Settle s c ∷ m) = filter-listed p f o m
filter-listed p f o (Floor z ∷ m) = filter-listed p f o m

-- ---- the versions

all-map : (o : ObjectId) (x : TimeParts) (qs : List Seen) → Every (λ q. lt x q.start ≡ true) qs → all_above x (map (version_of o) qs) ≡ true
unfolding all_above
all-map o x [] h = refl
all-map o x (q ∷ qs) h = ap (λ b. b && all_above x (map (version_of o) qs)) h.0 ∙ all-map o x qs h.1

in-if : (o : ObjectId) (b : Bool) (q p : Seen) (ps : List Seen) → lt q.start p.start ≡ b → Sorted (p ∷ ps) → version_in (version_of o q) (map (version_of o) ps) ≡ map (version_of o) (insert q ps) →
    (if b && all_above q.start (map (version_of o) ps) then version_of o q ∷ version_of o p ∷ map (version_of o) ps else version_of o p ∷ version_in (version_of o q) (map (version_of o) ps)) ≡ map (version_of o) (if b then q ∷ p ∷ ps else p ∷ insert q ps)
in-if o true q p ps e h k =
    ap (λ b. if b then version_of o q ∷ version_of o p ∷ map (version_of o) ps else version_of o p ∷ version_in (version_of o q) (map (version_of o) ps))
    (all-map o q.start ps (every-map (λ z. lt z.start p.start ≡ false) (λ z. lt q.start z.start ≡ true) (λ z l. above-less q.start p.start z.start e l) ps h.0))
in-if o false q p ps e h k = ap (λ z. version_of o p ∷ z) k

in-map : (o : ObjectId) (q : Seen) (ps : List Seen) → Sorted ps → version_in (version_of o q) (map (version_of o) ps) ≡ map (version_of o) (insert q ps)
unfolding version_in insert
in-map o q [] h = refl
in-map o q (p ∷ ps) h = in-if o (lt q.start p.start) q p ps refl h (in-map o q ps h.1)

if-map : (o : ObjectId) (b : Bool) (q : Seen) (ps : List Seen) (vs : List Version) → Sorted ps → vs ≡ map (version_of o) ps → (if b then version_in (version_of o q) vs else vs) ≡ map (version_of o) (if b then insert q ps else ps)
if-map o true q ps vs s h = ap (version_in (version_of o q)) h ∙ in-map o q ps s
if-map o false q ps vs s h = h

-- what the terms say of the object's own start
abbrev folded_now : Terms → ObjectId → TimeParts → Bool
folded_now t o x = is_committed (t.settled x.stamp) && is_wanted (t.cursor o) t.below x

put-versions : (e : Bool) (t : Terms) (a o : ObjectId) (x : TimeParts) (v : Value) (s : StandingParts) (n : ℕ) (ps : List Seen) → (e ≡ true → a ≡ o) → Sorted ps → s.versions ≡ map (version_of o) ps →
    (if e then with_version (put_of t a x) v s else s).versions ≡ map (version_of o) (if e && folded_now t o x then insert (record { place = n; start = x; value = v }) ps else ps)
put-versions true t a o x v s n ps same sorted h =
    ap (λ (z : ObjectId). (with_version (put_of t z x) v s).versions) (same refl)
    ∙ if-map o (folded_now t o x) (record { place = n; start = x; value = v }) ps s.versions sorted h
put-versions false t a o x v s n ps same sorted h = h

versions-listed : (t : Terms) (o : ObjectId) (m : List Mark) → (standing_of t o m).versions ≡ map (version_of o) (listed (folded_now t o) o m)
unfolding standing_of listed
versions-listed t o [] = refl
versions-listed t o (Put a x v ∷ m) = put-versions (same_object a o) t a o x v (standing_of t o m) (version_count o m) (listed (folded_now t o) o m) (same_object-is a o) (sorted-listed (folded_now t o) o m) (versions-listed t o m)
versions-listed t o (Stretch a x ∷ m) = versions-listed t o m
versions-listed t o (Settle s c ∷ m) = versions-listed t o m
versions-listed t o (Floor z ∷ m) = versions-listed t o m

-- ---- the first undecided version

earlier-if : (b : Bool) (x y z : TimeParts) (c d : Bool) → lt z y ≡ b → lt x y ≡ c → lt x z ≡ d → not (lt x (if b then z else y)) ≡ (not c || not d)
earlier-if true x y z true d e h k = ap not k
earlier-if true x y z false true e h k = absurd (true≢false (sym (lt-trans x z y k e) ∙ h))
earlier-if true x y z false false e h k = ap not k
earlier-if false x y z false d e h k = ap not h
earlier-if false x y z true true e h k = ap not h
earlier-if false x y z true false e h k = absurd (true≢false (sym (lt-split x z y h e) ∙ k))

or-none : (b : Bool) → b ≡ (b || false)
or-none true = refl
or-none false = refl

earlier-stops : (x y : TimeParts) (u : Option TimeParts) → is_stopped (Some (earlier y u)) x ≡ (not (lt x y) || is_stopped u x)
earlier-stops x y None = or-none (not (lt x y))
earlier-stops x y (Some z) = earlier-if (lt z y) x y z (lt x y) (lt x z) refl refl refl

-- an undecided version of the object isn't above x
abbrev undecided_at : Terms → TimeParts → TimeParts → Bool
undecided_at t x y = not (is_settled (t.settled y.stamp)) && not (lt x y)

put-stops : (e c : Bool) (x y : TimeParts) (u : Option TimeParts) (rest : Bool) → is_stopped u x ≡ rest → is_stopped (if e then (if c then u else Some (earlier y u)) else u) x ≡ ((e && (not c && not (lt x y))) || rest)
put-stops true true x y u rest h = h
put-stops true false x y u rest h = earlier-stops x y u ∙ ap (λ z. not (lt x y) || z) h
put-stops false c x y u rest h = h

undecided-if : (e : Bool) (p : puts.Put) (v : Value) (s : StandingParts) → (if e then with_version p v s else s).undecided ≡ (if e then (if is_settled p.settled then s.undecided else Some (earlier p.start s.undecided)) else s.undecided)
undecided-if true p v s = refl
undecided-if false p v s = refl

stopped : (t : Terms) (o : ObjectId) (m : List Mark) (x : TimeParts) → is_stopped (standing_of t o m).undecided x ≡ some_put (undecided_at t x) o m
unfolding standing_of some_put
stopped t o [] x = refl
stopped t o (Put a y v ∷ m) x =
    ap (λ u. is_stopped u x) (undecided-if (same_object a o) (put_of t a y) v (standing_of t o m))
    ∙ put-stops (same_object a o) (is_settled (t.settled y.stamp)) x y (standing_of t o m).undecided (some_put (undecided_at t x) o m) (stopped t o m x)
stopped t o (Stretch a y ∷ m) x = stopped t o m x
stopped t o (Settle s c ∷ m) x = stopped t o m x
stopped t o (Floor z ∷ m) x = stopped t o m x

-- ---- what was given up

put-retired : (e : Bool) (t : Terms) (a o : ObjectId) (x : TimeParts) (v : Value) (s : StandingParts) (rest : Bool) → (e ≡ true → a ≡ o) → s.is_retired ≡ rest →
    (if e then with_version (put_of t a x) v s else s).is_retired ≡ ((e && is_lost t.floor (t.cursor o) x) || rest)
put-retired true t a o x v s rest same h = ap (λ (z : ObjectId). is_lost t.floor (t.cursor z) x || s.is_retired) (same refl) ∙ ap (λ z. is_lost t.floor (t.cursor o) x || z) h
put-retired false t a o x v s rest same h = h

retired : (t : Terms) (o : ObjectId) (m : List Mark) → (standing_of t o m).is_retired ≡ some_put (is_lost t.floor (t.cursor o)) o m
unfolding standing_of some_put
retired t o [] = refl
retired t o (Put a x v ∷ m) = put-retired (same_object a o) t a o x v (standing_of t o m) (some_put (is_lost t.floor (t.cursor o)) o m) (same_object-is a o) (retired t o m)
retired t o (Stretch a x ∷ m) = retired t o m
retired t o (Settle s c ∷ m) = retired t o m
retired t o (Floor z ∷ m) = retired t o m

-- ---- what is folded

filter-map : (o : ObjectId) (p : TimeParts → Bool) (qs : List Seen) → filter (λ v. p v.start) (map (version_of o) qs) ≡ map (version_of o) (filter (λ q. p q.start) qs)
filter-map o p [] = refl
filter-map o p (q ∷ qs) = ap (λ z. if p q.start then version_of o q ∷ z else z) (filter-map o p qs) ∙ map-keep (p q.start)
  where
    map-keep : (b : Bool) → (if b then version_of o q ∷ map (version_of o) (filter (λ q. p q.start) qs) else map (version_of o) (filter (λ q. p q.start) qs)) ≡ map (version_of o) (if b then q ∷ filter (λ q. p q.start) qs else filter (λ q. p q.start) qs)
    map-keep true = refl
    map-keep false = refl

and-swap : (a b c : Bool) → ((a && b) && c) ≡ ((a && c) && b)
and-swap true b c = and-turn b c
  where
    and-turn : (b c : Bool) → (b && c) ≡ (c && b)
    and-turn true true = refl
    and-turn true false = refl
    and-turn false true = refl
    and-turn false false = refl
and-swap false b c = refl

by-point : {A B : Type 0} (f g : A → B) → ((x : A) → f x ≡ g x) → f ≡ g
by-point f g h = λ i x. h x i

-- the terms over these marks, by an object's cursor
abbrev pub terms_of : List Mark → Option TimeParts → (ObjectId → Option TimeParts) → Terms
terms_of m below cursor = record { settled = settle_of m; floor = floor_of m; below = below; cursor = cursor }

pub settled-fresh : (m : List Mark) (below : Option TimeParts) (cursor : ObjectId → Option TimeParts) (o : ObjectId) → settled_in (standing_of (terms_of m below cursor) o m) ≡ fresh m o (cursor o) below
settled-fresh m below cursor o =
    let t = terms_of m below cursor in
    ap (λ vs. filter (λ (v : Version). not (is_stopped (standing_of t o m).undecided v.start)) vs) (versions-listed t o m)
    ∙ ap (λ (p : TimeParts → Bool). filter (λ (v : Version). p v.start) (map (version_of o) (listed (folded_now t o) o m))) (by-point (λ x. not (is_stopped (standing_of t o m).undecided x)) (λ x. not (is_blocked m o x)) (λ x. ap not (stopped t o m x)))
    ∙ filter-map o (λ x. not (is_blocked m o x)) (listed (folded_now t o) o m)
    ∙ ap (map (version_of o)) (filter-listed (λ x. not (is_blocked m o x)) (folded_now t o) o m
    ∙ ap (λ (f : TimeParts → Bool). listed f o m) (by-point _ _ (λ x. and-swap (is_committed (settle_of m x.stamp)) (is_wanted (cursor o) below x) (not (is_blocked m o x))))
    ∙ sym (filter-listed (λ x. is_wanted (cursor o) below x) (λ x. is_committed (settle_of m x.stamp) && not (is_blocked m o x)) o m))

pub stood-advanced : {T : Type 0} (first : T) (next : T → Version → Option T) (m : List Mark) (below : Option TimeParts) (cursor : ObjectId → Option TimeParts) (o : ObjectId) (w : Option (Moved T)) → cursor o ≡ cursor_of w →
    stood first next (floor_of m) o (standing_of (terms_of m below cursor) o m) w ≡ advanced first next o m below w
stood-advanced first next m below cursor o w is =
    ap (λ vs. unless_retired (standing_of (terms_of m below cursor) o m).is_retired o (floor_of m) (moved_over first next o w vs)) (settled-fresh m below cursor o)
    ∙ ap (λ b. unless_retired b o (floor_of m) (moved_over first next o w (fresh m o (cursor o) below))) (retired (terms_of m below cursor) o m)
    ∙ ap (λ c. unless_retired (is_retired m o c) o (floor_of m) (moved_over first next o w (fresh m o c below))) is

pub stood-empty : {T : Type 0} (first : T) (next : T → Version → Option T) (floor : Option TimeParts) (o : ObjectId) (w : Option (Moved T)) → stood first next floor o empty_standing w ≡ Ok w
unfolding moved_over
stood-empty first next floor o w = refl

-- what the code asks is what the marks say
scan-terms : {T : Type 0} (scan : Scan) (ws : List (Moved T)) (m : List Mark) (below : Option TimeParts) → ((p : StampParts) → finite.get scan.settles p ≡ settle_of m p) → scan.floor ≡ floor_of m → scan.below ≡ below →
    terms_in scan ws ≡ terms_of m below (λ o. cursor_of (moved_at o ws))
unfolding terms_in
scan-terms scan ws m below settles floor end = λ i. record {
  settled = by-point (λ p. finite.get scan.settles p) (settle_of m) settles i;
  floor = floor i;
  below = end i;
  cursor = λ o. cursor_of (moved_at o ws);
}

pub scan-advanced : {T : Type 0} (first : T) (next : T → Version → Option T) (scan : Scan) (ws : List (Moved T)) (m : List Mark) (below : Option TimeParts) (s : StandingParts) (o : ObjectId) →
    ((p : StampParts) → finite.get scan.settles p ≡ settle_of m p) → scan.floor ≡ floor_of m → scan.below ≡ below → s ≡ standing_of (terms_in scan ws) o m →
    stood first next scan.floor o s (moved_at o ws) ≡ advanced first next o m below (moved_at o ws)
scan-advanced first next scan ws m below s o settles floor end is =
    ap (λ e. stood first next e o s (moved_at o ws)) floor
    ∙ ap (λ z. stood first next (floor_of m) o z (moved_at o ws)) (is ∙ ap (λ t. standing_of t o m) (scan-terms scan ws m below settles floor end))
    ∙ stood-advanced first next m below (λ a. cursor_of (moved_at a ws)) o (moved_at o ws) refl
