-- What is viewed stays viewed, and what a reader sees is its view.
use Rattle.object_history.proofs.Names.{TimeParts, ObjectId, Value, Mark, Put, Stretch, Settle, Floor, same_stamp, lt, same_object, version_count, Seen, settle_of, is_alive, alive, starts_above, pick, scan, sees, place_of, same_place, top, stretched, floor_of, latest, read_to, reach, Starts, HasPut, shows, views, Covers, Firm, Shut, value_of, Viewed, Fits, same_stamp-is, lt-trans, lt-fall, lt-asymmetric, lt-irreflexive, ◌≡◌, ◌≢◌, Bool, true, false, List, [], ◌∷◌, refl, sym, ◌∙◌, ap, subst, Option, Some, None, ◌&&◌, ◌||◌, not, if◌then◌else◌, ◌⊎◌, inl, inr, false≢true, true≢false}
use Rattle.object_history.proofs.Words.{Passes, AtMost}
use Rattle.object_history.proofs.BoolLemmas.{and-both, not-false}
use Rattle.object_history.proofs.ObjectLemmas.{same_object-of}
use Rattle.object_history.proofs.TestLemmas.{two-tests}
use Rattle.object_history.proofs.StableLemmas.{view-kept, settled-stays, starts-map, scan-passes, starts-all}

pub has-map : (P Q : TimeParts → Type 0) (o : ObjectId) (m : List Mark) → ((x : TimeParts) → P x → Q x) → HasPut P o m → HasPut Q o m
has-map P Q o [] h j = j
has-map P Q o (Put a x v ∷ m) h (inl j) = inl (j.0, h x j.1)
has-map P Q o (Put a x v ∷ m) h (inr j) = inr (has-map P Q o m h j)
has-map P Q o (Stretch a x ∷ m) h j = has-map P Q o m h j
has-map P Q o (Settle s c ∷ m) h j = has-map P Q o m h j
has-map P Q o (Floor z ∷ m) h j = has-map P Q o m h j

-- the greater of two ends covers what one of them covers
later-left : (b : Bool) (x e t : TimeParts) → lt x e ≡ b → lt x t ≡ false → Covers (if b then Some e else Some x) t
later-left true x e t h c = not-false (lt e t) (λ k. true≢false (sym (lt-trans x e t h k) ∙ c))
later-left false x e t h c = c

later-right : (b : Bool) (x e t : TimeParts) → lt x e ≡ b → lt e t ≡ false → Covers (if b then Some e else Some x) t
later-right true x e t h c = c
later-right false x e t h c = not-false (lt x t) (λ k. true≢false (sym (lt-fall x e t h k) ∙ c))

later-either : (b : Bool) (x e t : TimeParts) → Covers (if b then Some e else Some x) t → (lt x t ≡ false) ⊎ (lt e t ≡ false)
later-either true x e t c = inr c
later-either false x e t c = inl c

pub covers-first : (x : TimeParts) (e : Option TimeParts) (t : TimeParts) → lt x t ≡ false → Covers (top x e) t
covers-first x None t c = c
covers-first x (Some e) t c = later-left (lt x e) x e t refl c

pub covers-rest : (x : TimeParts) (e : Option TimeParts) (t : TimeParts) → Covers e t → Covers (top x e) t
covers-rest x None t c = absurd c
covers-rest x (Some e) t c = later-right (lt x e) x e t refl c

pub covers-either : (x : TimeParts) (e : Option TimeParts) (t : TimeParts) → Covers (top x e) t → (lt x t ≡ false) ⊎ Covers e t
covers-either x None t c = inl c
covers-either x (Some e) t c = later-either (lt x e) x e t c

pub covers-top : (b : Bool) (x t : TimeParts) (e : Option TimeParts) → Covers e t → Covers (if b then top x e else e) t
covers-top true x t e c = covers-rest x e t c
covers-top false x t e c = c

covers-reach : (b : Bool) (s x t : TimeParts) (e : Option TimeParts) → Covers (top s e) t → Covers (top s (if b then top x e else e)) t
covers-reach b s x t e c = elim (covers-either s e t c) [
  | inl h ↦ covers-first s (if b then top x e else e) t h
  | inr h ↦ covers-rest s (if b then top x e else e) t (covers-top b x t e h)
]

-- a Stretch only raises a reach
pub covers-which : (f e : Option TimeParts) (t : TimeParts) → Covers (latest f e) t → Covers f t ⊎ Covers e t
covers-which None e t c = inr c
covers-which (Some x) e t c = covers-either x e t c

pub covers-floor : (f e : Option TimeParts) (t : TimeParts) → Covers f t → Covers (latest f e) t
covers-floor None e t c = absurd c
covers-floor (Some x) e t c = covers-first x e t c

pub covers-read : (f e : Option TimeParts) (t : TimeParts) → Covers e t → Covers (latest f e) t
covers-read None e t c = c
covers-read (Some x) e t c = covers-rest x e t c

covers-latest : (f e g : Option TimeParts) (t : TimeParts) → (Covers e t → Covers g t) → Covers (latest f e) t → Covers (latest f g) t
covers-latest f e g t h c = elim (covers-which f e t c) [
  | inl k ↦ covers-floor f g t k
  | inr k ↦ covers-read f g t (h k)
]

-- a higher floor
covers-higher : (x : TimeParts) (f e : Option TimeParts) (t : TimeParts) → Covers (latest f e) t → Covers (latest (top x f) e) t
covers-higher x f e t c = elim (covers-which f e t c) [
  | inl k ↦ covers-floor (top x f) e t (covers-rest x f t k)
  | inr k ↦ covers-read (top x f) e t k
]

read-rises : (m : List Mark) (a : ObjectId) (x : TimeParts) (o : ObjectId) (t : TimeParts) (r : Option Seen) →
    Covers (read_to m o r) t → Covers (read_to (Stretch a x ∷ m) o r) t
unfolding stretched
read-rises m a x o t None c = covers-top (same_object a o && same_place (place_of (sees m o x)) None) x t (stretched m o None) c
read-rises m a x o t (Some q) c = covers-reach (same_object a o && same_place (place_of (sees m o x)) (Some q.place)) q.start x t (stretched m o (Some q.place)) c

pub reach-rises : (m : List Mark) (a : ObjectId) (x : TimeParts) (o : ObjectId) (t : TimeParts) (r : Option Seen) →
    Covers (reach m o r) t → Covers (reach (Stretch a x ∷ m) o r) t
unfolding floor_of
reach-rises m a x o t r c =
    covers-latest (floor_of m) (read_to m o r) (read_to (Stretch a x ∷ m) o r) t (read-rises m a x o t r) c

pub reach-stays : (m : List Mark) (f : Mark) (o : ObjectId) (r : Option Seen) (t : TimeParts) → Covers (reach m o r) t → Covers (reach (f ∷ m) o r) t
unfolding stretched floor_of
reach-stays m (Put a x v) o None t c = c
reach-stays m (Put a x v) o (Some q) t c = c
reach-stays m (Stretch a x) o r t c = reach-rises m a x o t r c
reach-stays m (Settle s d) o None t c = c
reach-stays m (Floor z) o None t c = covers-higher z (floor_of m) (read_to m o None) t c
reach-stays m (Settle s d) o (Some q) t c = c
reach-stays m (Floor z) o (Some q) t c = covers-higher z (floor_of m) (read_to m o (Some q)) t c

pub firm-kept : (m : List Mark) (f : Mark) (t : TimeParts) (r : Option Seen) → Firm m t r → Firm (f ∷ m) t r
unfolding settle_of
firm-kept m f t None h = tt
firm-kept m f t (Some q) (inl own) = inl own
firm-kept m (Put a x v) t (Some q) (inr set) = inr set
firm-kept m (Stretch a x) t (Some q) (inr set) = inr set
firm-kept m (Settle s c) t (Some q) (inr set) = inr (settled-stays m s q.start.stamp c true set)
firm-kept m (Floor z) t (Some q) (inr set) = inr set

shut-kept : (m : List Mark) (f : Mark) (o : ObjectId) (t : TimeParts) (r : Option Seen) → Shut m o t r → Shut (f ∷ m) o t r
unfolding settle_of stretched floor_of
shut-kept m (Put a x v) o t None (inl c) = inl c
shut-kept m (Put a x v) o t (Some q) (inl c) = inl c
shut-kept m (Put a x v) o t r (inr j) = inr (inr j)
shut-kept m (Stretch a x) o t r (inl c) = inl (reach-rises m a x o t r c)
shut-kept m (Stretch a x) o t r (inr j) = inr j
shut-kept m (Settle s c) o t None (inl w) = inl w
shut-kept m (Settle s c) o t (Some q) (inl w) = inl w
shut-kept m (Settle s c) o t r (inr j) =
    inr (has-map (λ y. (settle_of m y.stamp ≡ Some true) × (lt y t ≡ false)) (λ y. (settle_of (Settle s c ∷ m) y.stamp ≡ Some true) × (lt y t ≡ false)) o m
    (λ y w. (settled-stays m s y.stamp c true w.0, w.1)) j)
shut-kept m (Floor z) o t r (inl c) = inl (reach-stays m (Floor z) o r t c)
shut-kept m (Floor z) o t r (inr j) = inr j

-- what is viewed stays viewed under each mark that fits
pub viewed-kept : (m : List Mark) (f : Mark) (o : ObjectId) (t : TimeParts) (v : Value) → Fits m f → Viewed m o t v → Viewed (f ∷ m) o t v
viewed-kept m f o t v fits w =
    let same : views m o t ≡ views (f ∷ m) o t = sym (view-kept m f o t fits w.1 w.2) in
    let P : Option Seen → Type 0 = λ r. (value_of r ≡ v) × Firm (f ∷ m) t r × Shut (f ∷ m) o t r in
    subst P same (w.0, firm-kept m f t (views m o t) w.1, shut-kept m f o t (views m o t) w.2)

pub has-with : (S P Q : TimeParts → Type 0) (o : ObjectId) (m : List Mark) → ((x : TimeParts) → S x → P x → Q x) → Starts S o m → HasPut P o m → HasPut Q o m
has-with S P Q o [] h k j = j
has-with S P Q o (Put a x v ∷ m) h k (inl j) = inl (j.0, h x (k.0 j.0) j.1)
has-with S P Q o (Put a x v ∷ m) h k (inr j) = inr (has-with S P Q o m h k.1 j)
has-with S P Q o (Stretch a x ∷ m) h k j = has-with S P Q o m h k j
has-with S P Q o (Settle s c ∷ m) h k j = has-with S P Q o m h k j
has-with S P Q o (Floor z ∷ m) h k j = has-with S P Q o m h k j

-- the pick is at or above the rest, and at or above the put where it passes
top-rest : (b c : Bool) (s : Seen) (r : Option Seen) (y : TimeParts) → starts_above r s.start ≡ c → AtMost r y →
    AtMost (if b && not c then Some s else r) y
top-rest true true s r y h k = k
top-rest true false s None y h k = absurd k
top-rest true false s (Some q) y h k = not-false (lt s.start y) (λ n. true≢false (sym (lt-fall s.start q.start y h n) ∙ k))
top-rest false c s r y h k = k

top-put : (b c : Bool) (s : Seen) (r : Option Seen) → starts_above r s.start ≡ c → b ≡ true →
    AtMost (if b && not c then Some s else r) s.start
top-put true true s None h k = absurd (false≢true h)
top-put true true s (Some q) h k = lt-asymmetric s.start q.start h
top-put true false s r h k = lt-irreflexive s.start
top-put false c s r h k = absurd (false≢true k)

pub top-all : (ok : TimeParts → Bool) (o : ObjectId) (m : List Mark) → Starts (λ y. ok y ≡ true → AtMost (scan ok o m) y) o m
unfolding scan pick
top-all ok o [] = tt
top-all ok o (Put a x v ∷ m) =
    let s : Seen = record { place = version_count o m; start = x; value = v } in (
      λ e h. top-put (same_object a o && ok x) (starts_above (scan ok o m) x) s (scan ok o m) refl (and-both (same_object a o) (ok x) (same_object-of a o e) h),
      starts-map (λ y. ok y ≡ true → AtMost (scan ok o m) y) (λ y. ok y ≡ true → AtMost (scan ok o (Put a x v ∷ m)) y) o m
          (λ y h k. top-rest (same_object a o && ok x) (starts_above (scan ok o m) x) s (scan ok o m) y refl (h k)) (top-all ok o m),
    )
top-all ok o (Stretch a x ∷ m) = top-all ok o m
top-all ok o (Settle s c ∷ m) = top-all ok o m
top-all ok o (Floor z ∷ m) = top-all ok o m

-- a reader that isn't known aborted sees its view
own-alive : (a p q : Bool) → (q ≡ true → p ≡ true) → (a && (p || q)) ≡ true → (a && p) ≡ true
own-alive true true q h k = refl
own-alive true false true h k = h refl
own-alive true false false h k = k
own-alive false p q h k = k

alive-own : (m : List Mark) (x t : TimeParts) → alive m t ≡ true → (same_stamp x.stamp t.stamp) ≡ true → alive m x ≡ true
alive-own m x t h e = ap (λ y. is_alive (settle_of m y)) (same_stamp-is x.stamp t.stamp e) ∙ h

passes-sees : (m : List Mark) (t : TimeParts) (r : Option Seen) → alive m t ≡ true → Passes (λ x. shows m t x) r → Passes (λ x. lt x t && alive m x) r
passes-sees m t None h p = tt
passes-sees m t (Some q) h p = own-alive (lt q.start t) (alive m q.start) (same_stamp q.start.stamp t.stamp) (alive-own m q.start t h) p

more-shown : (a p q : Bool) → (a && p) ≡ true → (a && (p || q)) ≡ true
more-shown true true q h = refl
more-shown true false q h = absurd (false≢true h)
more-shown false p q h = h

pub sees-views : (m : List Mark) (o : ObjectId) (t : TimeParts) → alive m t ≡ true → sees m o t ≡ views m o t
sees-views m o t h =
    two-tests (λ x. shows m t x) (λ x. lt x t && alive m x) o m
    (starts-all (λ x. (lt x t && alive m x) ≡ true → shows m t x ≡ true) o m (λ x k. more-shown (lt x t) (alive m x) (same_stamp x.stamp t.stamp) k))
    (passes-sees m t (views m o t) h (scan-passes (λ x. shows m t x) o m))

pub settled-true : (u : Option Bool) → u ≢ None → is_alive u ≡ true → u ≡ Some true
settled-true None h k = absurd (h refl)
settled-true (Some true) h k = refl
settled-true (Some false) h k = absurd (false≢true k)
