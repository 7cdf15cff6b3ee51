-- Versions that fall: what a read sees is the first of them that passes, and no two have one place.
use Rattle.report_writer.proofs.Names.{◌≡◌, ℕ, ◌+◌, ◌<◌, Bool, true, false, List, [], ◌∷◌, refl, sym, ◌∙◌, ap, Option, Some, None, ◌==◌, ◌&&◌, not, if◌then◌else◌, arith, true≢false, common_steps, TimeParts, lt, Every, lt-asymmetric, lt-fall, ObjectId, Mark, Put, Stretch, Settle, Floor, same_object, Seen, version_count, starts_above, pick, scan, place_of, same_place, not-false, version_in, falling}
use Rattle.pseudo_time.proofs.ListLemmas.{every-map}

-- ---- facts on all versions

every-if : (P : Seen → Type 0) (b : Bool) (q p : Seen) (ps qs : List Seen) → P q → P p → Every P ps → Every P qs → Every P (if b then p ∷ qs else q ∷ p ∷ ps)
every-if P true q p ps qs h k all more = (k, more)
every-if P false q p ps qs h k all more = (h, (k, all))

pub every-in : (P : Seen → Type 0) (q : Seen) (ps : List Seen) → P q → Every P ps → Every P (version_in q ps)
unfolding version_in
every-in P q [] h all = (h, tt)
every-in P q (p ∷ ps) h all = every-if P (lt q.start p.start) q p ps (version_in q ps) h all.0 all.1 (every-in P q ps h all.1)

every-cond : (P : Seen → Type 0) (b : Bool) (q : Seen) (ps : List Seen) → P q → Every P ps → Every P (if b then version_in q ps else ps)
every-cond P true q ps h all = every-in P q ps h all
every-cond P false q ps h all = all

-- ---- none starts above one before it

abbrev pub Falls : List Seen → Type 0
Falls [] = Unit {0}
Falls (p ∷ ps) = Every (λ (r : Seen). lt p.start r.start ≡ false) ps × Falls ps

over : (q p r : TimeParts) → lt q p ≡ false → lt p r ≡ false → lt q r ≡ false
over q p r h k = not-false (lt q r) (λ e. true≢false (sym (lt-fall q p r h e) ∙ k))

falls-if : (b : Bool) (q p : Seen) (ps qs : List Seen) → lt q.start p.start ≡ b → Falls (p ∷ ps) → (lt q.start p.start ≡ true → Every (λ (r : Seen). lt p.start r.start ≡ false) qs) → Falls qs →
    Falls (if b then p ∷ qs else q ∷ p ∷ ps)
falls-if true q p ps qs is f low g = (low is, g)
falls-if false q p ps qs is f low g =
    ((is, every-map (λ (r : Seen). lt p.start r.start ≡ false) (λ (r : Seen). lt q.start r.start ≡ false) (λ r k. over q.start p.start r.start is k) ps f.0), f)

falls-in : (q : Seen) (ps : List Seen) → Falls ps → Falls (version_in q ps)
unfolding version_in
falls-in q [] f = (tt, tt)
falls-in q (p ∷ ps) f =
    falls-if (lt q.start p.start) q p ps (version_in q ps) refl f
    (λ above. every-in (λ (r : Seen). lt p.start r.start ≡ false) q ps (lt-asymmetric q.start p.start above) f.0) (falls-in q ps f.1)

falls-cond : (b : Bool) (q : Seen) (ps : List Seen) → Falls ps → Falls (if b then version_in q ps else ps)
falls-cond true q ps f = falls-in q ps f
falls-cond false q ps f = f

pub falls : (o : ObjectId) (m : List Mark) → Falls (falling o m)
unfolding falling
falls o [] = tt
falls o (Put a x v ∷ m) = falls-cond (same_object a o) (record { place = version_count o m; start = x; value = v }) (falling o m) (falls o m)
falls o (Stretch a x ∷ m) = falls o m
falls o (Settle s c ∷ m) = falls o m
falls o (Floor z ∷ m) = falls o m

-- ---- the first that passes

abbrev pub first_seen : (TimeParts → Bool) → List Seen → Option Seen
first_seen ok [] = None
first_seen ok (q ∷ qs) = if ok q.start then Some q else first_seen ok qs

above-if : (b : Bool) (x : TimeParts) (p : Seen) (r : Option Seen) → lt x p.start ≡ false → starts_above r x ≡ false → starts_above (if b then Some p else r) x ≡ false
above-if true x p r h k = h
above-if false x p r h k = k

none-above : (ok : TimeParts → Bool) (x : TimeParts) (ps : List Seen) → Every (λ (r : Seen). lt x r.start ≡ false) ps → starts_above (first_seen ok ps) x ≡ false
none-above ok x [] h = refl
none-above ok x (p ∷ ps) h = above-if (ok p.start) x p (first_seen ok ps) h.0 (none-above ok x ps h.1)

kept : (c e : Bool) (q : Seen) (r : Option Seen) → e ≡ true → (if c && not e then Some q else r) ≡ r
kept true true q r h = refl
kept false true q r h = refl
kept c false q r h = absurd (true≢false (sym h))

taken : (c e : Bool) (q : Seen) (r other : Option Seen) → e ≡ false → r ≡ other → (if c && not e then Some q else r) ≡ (if c then Some q else other)
taken true false q r other h k = refl
taken false false q r other h k = k
taken c true q r other h k = absurd (true≢false h)

under-first : (b c e : Bool) (q p : Seen) (r next : Option Seen) → e ≡ true → (if c && not (starts_above r q.start) then Some q else r) ≡ next → lt q.start p.start ≡ e →
    (if c && not (starts_above (if b then Some p else r) q.start) then Some q else (if b then Some p else r)) ≡ (if b then Some p else next)
under-first true c e q p r next h k is = kept c (lt q.start p.start) q (Some p) (is ∙ h)
under-first false c e q p r next h k is = k

pick-if : (b : Bool) (ok : TimeParts → Bool) (q p : Seen) (ps qs : List Seen) → lt q.start p.start ≡ b → (lt q.start p.start ≡ false → Every (λ (r : Seen). lt q.start r.start ≡ false) (p ∷ ps)) →
    pick (ok q.start) q (first_seen ok ps) ≡ first_seen ok qs → pick (ok q.start) q (first_seen ok (p ∷ ps)) ≡ first_seen ok (if b then p ∷ qs else q ∷ p ∷ ps)
unfolding pick
pick-if true ok q p ps qs is low h = under-first (ok p.start) (ok q.start) true q p (first_seen ok ps) (first_seen ok qs) refl h is
pick-if false ok q p ps qs is low h =
    taken (ok q.start) (starts_above (first_seen ok (p ∷ ps)) q.start) q (first_seen ok (p ∷ ps)) (first_seen ok (p ∷ ps)) (none-above ok q.start (p ∷ ps) (low is)) refl

pick-in : (ok : TimeParts → Bool) (q : Seen) (ps : List Seen) → Falls ps → pick (ok q.start) q (first_seen ok ps) ≡ first_seen ok (version_in q ps)
unfolding pick version_in
pick-in ok q [] f = taken (ok q.start) false q None None refl refl
pick-in ok q (p ∷ ps) f =
    pick-if (lt q.start p.start) ok q p ps (version_in q ps) refl
    (λ is. (is, every-map (λ (r : Seen). lt p.start r.start ≡ false) (λ (r : Seen). lt q.start r.start ≡ false) (λ r k. over q.start p.start r.start is k) ps f.0)) (pick-in ok q ps f.1)

scan-if : (b : Bool) (ok : TimeParts → Bool) (q : Seen) (ps : List Seen) (r : Option Seen) → Falls ps → r ≡ first_seen ok ps → pick (b && ok q.start) q r ≡ first_seen ok (if b then version_in q ps else ps)
unfolding pick
scan-if true ok q ps r f h = ap (pick (ok q.start) q) h ∙ pick-in ok q ps f
scan-if false ok q ps r f h = h

pub scan-first : (ok : TimeParts → Bool) (o : ObjectId) (m : List Mark) → scan ok o m ≡ first_seen ok (falling o m)
unfolding scan falling
scan-first ok o [] = refl
scan-first ok o (Put a x v ∷ m) = scan-if (same_object a o) ok (record { place = version_count o m; start = x; value = v }) (falling o m) (scan ok o m) (falls o m) (scan-first ok o m)
scan-first ok o (Stretch a x ∷ m) = scan-first ok o m
scan-first ok o (Settle s c ∷ m) = scan-first ok o m
scan-first ok o (Floor z ∷ m) = scan-first ok o m

-- ---- places

abbrev pub Differ : Seen → Seen → Type 0
Differ p q = ((p.place == q.place) ≡ false) × ((q.place == p.place) ≡ false)

abbrev pub Apart : List Seen → Type 0
Apart [] = Unit {0}
Apart (p ∷ ps) = Every (Differ p) ps × Apart ps

apart-if : (b : Bool) (q p : Seen) (ps qs : List Seen) → Every (Differ q) (p ∷ ps) → Apart (p ∷ ps) → Every (Differ p) qs → Apart qs → Apart (if b then p ∷ qs else q ∷ p ∷ ps)
apart-if true q p ps qs h a k g = (k, g)
apart-if false q p ps qs h a k g = (h, a)

apart-in : (q : Seen) (ps : List Seen) → Every (Differ q) ps → Apart ps → Apart (version_in q ps)
unfolding version_in
apart-in q [] h a = (tt, tt)
apart-in q (p ∷ ps) h a = apart-if (lt q.start p.start) q p ps (version_in q ps) h a (every-in (Differ p) q ps (h.0.1, h.0.0) a.0) (apart-in q ps h.1 a.1)

apart-cond : (b : Bool) (q : Seen) (ps : List Seen) → Every (Differ q) ps → Apart ps → Apart (if b then version_in q ps else ps)
apart-cond true q ps h a = apart-in q ps h a
apart-cond false q ps h a = a

more : (k n : ℕ) → k < n → k < n + 1
more k n h = omega arith

under-if : (b : Bool) (n : ℕ) (q : Seen) (ps : List Seen) → q.place < n + 1 → Every (λ (r : Seen). r.place < n) ps → Every (λ (r : Seen). r.place < (if b then n + 1 else n)) (if b then version_in q ps else ps)
under-if true n q ps is h = every-in (λ (r : Seen). r.place < n + 1) q ps is (every-map (λ (r : Seen). r.place < n) (λ (r : Seen). r.place < n + 1) (λ r k. more r.place n k) ps h)
under-if false n q ps is h = h

next : (n : ℕ) → n < n + 1
next n = omega arith

-- a place is below the number of versions
under : (o : ObjectId) (m : List Mark) → Every (λ (q : Seen). q.place < version_count o m) (falling o m)
unfolding falling version_count
under o [] = tt
under o (Put a x v ∷ m) = under-if (same_object a o) (version_count o m) (record { place = version_count o m; start = x; value = v }) (falling o m) (next (version_count o m)) (under o m)
under o (Stretch a x ∷ m) = under o m
under o (Settle s c ∷ m) = under o m
under o (Floor z ∷ m) = under o m

differs : (n k : ℕ) → k < n → (n == k) ≡ false
differs n k h = grind (arith, common_steps)

differs-too : (n k : ℕ) → k < n → (k == n) ≡ false
differs-too n k h = grind (arith, common_steps)

pub apart : (o : ObjectId) (m : List Mark) → Apart (falling o m)
unfolding falling
apart o [] = tt
apart o (Put a x v ∷ m) =
    let q : Seen = record { place = version_count o m; start = x; value = v } in
    apart-cond (same_object a o) q (falling o m)
    (every-map (λ (r : Seen). r.place < version_count o m) (Differ q) (λ r k. (differs (version_count o m) r.place k, differs-too (version_count o m) r.place k)) (falling o m) (under o m)) (apart o m)
apart o (Stretch a x ∷ m) = apart o m
apart o (Settle s c ∷ m) = apart o m
apart o (Floor z ∷ m) = apart o m

-- the first that passes has another place than one that differs from all
place-if : (b : Bool) (q p : Seen) (r : Option Seen) → Differ q p → same_place (place_of r) (Some q.place) ≡ false → same_place (place_of (if b then Some p else r)) (Some q.place) ≡ false
place-if true q p r h k = h.1
place-if false q p r h k = k

pub first-differs : (ok : TimeParts → Bool) (q : Seen) (ps : List Seen) → Every (Differ q) ps → same_place (place_of (first_seen ok ps)) (Some q.place) ≡ false
first-differs ok q [] h = refl
first-differs ok q (p ∷ ps) h = place-if (ok p.start) q p (first_seen ok ps) h.0 (first-differs ok q ps h.1)
