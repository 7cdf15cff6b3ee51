-- Two tests that find the same version.
use Rattle.object_history.proofs.Names.{TimeParts, ObjectId, Mark, Put, Stretch, Settle, Floor, lt, same_object, version_count, Seen, starts_above, pick, scan, Starts, lt-trans, lt-split, ◌≡◌, Bool, true, false, List, [], ◌∷◌, refl, sym, ◌∙◌, ap, Option, Some, None, ◌&&◌, ◌||◌, not, if◌then◌else◌, false≢true, true≢false}
use Rattle.object_history.proofs.Words.{Passes}
use Rattle.object_history.proofs.ObjectLemmas.{same_object-is}

-- the choice between a put and the rest, over plain Booleans
choose : (bf bg c d : Bool) (s : Option Seen) (rf rg : Option Seen) →
    (bg ≡ true → bf ≡ true) → (d ≡ true → c ≡ true) → (rg ≡ rf → d ≡ c) →
    (bf && not c ≡ true → bg ≡ true) → (bf && not c ≡ false → rg ≡ rf) →
    (if bg && not d then s else rg) ≡ (if bf && not c then s else rf)
choose true true true true s rf rg h1 h2 h5 h3 h4 = h4 refl
choose true true true false s rf rg h1 h2 h5 h3 h4 = absurd (false≢true (h5 (h4 refl)))
choose true true false true s rf rg h1 h2 h5 h3 h4 = absurd (false≢true (h2 refl))
choose true true false false s rf rg h1 h2 h5 h3 h4 = refl
choose true false true d s rf rg h1 h2 h5 h3 h4 = h4 refl
choose true false false d s rf rg h1 h2 h5 h3 h4 = absurd (false≢true (h3 refl))
choose false true c d s rf rg h1 h2 h5 h3 h4 = absurd (false≢true (h1 refl))
choose false false c d s rf rg h1 h2 h5 h3 h4 = h4 refl

or-left : (l u : Bool) → (l ≡ true → u ≡ true) → u ≡ (l || u)
or-left true u h = h refl
or-left false u h = refl

or-right : (l u : Bool) → (u ≡ true → l ≡ true) → l ≡ (l || u)
or-right true u h = refl
or-right false true h = h refl
or-right false false h = refl

above-two : (b : Bool) (p q : Seen) (x : TimeParts) → lt p.start q.start ≡ b →
    starts_above (if true && not b then Some p else Some q) x ≡ (lt x p.start || lt x q.start)
above-two true p q x e = or-left (lt x p.start) (lt x q.start) (λ k. lt-trans x p.start q.start k e)
above-two false p q x e = or-right (lt x p.start) (lt x q.start) (λ k. lt-split x p.start q.start k e)

or-no : (b : Bool) → b ≡ (b || false)
or-no true = refl
or-no false = refl

-- what stands above x after a choice
pub above-pick : (b : Bool) (p : Seen) (r : Option Seen) (x : TimeParts) →
    starts_above (pick b p r) x ≡ ((b && lt x p.start) || starts_above r x)
unfolding pick
above-pick false p r x = refl
above-pick true p None x = or-no (lt x p.start)
above-pick true p (Some q) x = above-two (lt p.start q.start) p q x refl

or-mono : (e bg bf l ug uf : Bool) → (e ≡ true → bg ≡ true → bf ≡ true) → (ug ≡ true → uf ≡ true) →
    (((e && bg) && l) || ug) ≡ true → (((e && bf) && l) || uf) ≡ true
or-mono true true true true ug uf h u k = refl
or-mono true true true false ug uf h u k = u k
or-mono true true false l ug uf h u k = absurd (false≢true (h refl refl))
or-mono true false true true ug uf h u k = refl
or-mono true false true false ug uf h u k = u k
or-mono true false false l ug uf h u k = u k
or-mono false bg bf l ug uf h u k = u k

passes-picked : (e bf bg c : Bool) (g : TimeParts → Bool) (s : Seen) (r : Option Seen) → bg ≡ g s.start →
    Passes g (if (e && bf) && not c then Some s else r) → ((e && bf) && not c) ≡ true → (e && bg) ≡ true
passes-picked true true bg false g s r w p k = w ∙ p
passes-picked true true bg true g s r w p k = absurd (false≢true k)
passes-picked true false bg c g s r w p k = absurd (false≢true k)
passes-picked false bf bg c g s r w p k = absurd (false≢true k)

passes-left : (b : Bool) (g : TimeParts → Bool) (s : Seen) (r : Option Seen) →
    Passes g (if b then Some s else r) → b ≡ false → Passes g r
passes-left true g s r p k = absurd (true≢false k)
passes-left false g s r p k = p

and-mono : (e bg bf : Bool) → (e ≡ true → bg ≡ true → bf ≡ true) → (e && bg) ≡ true → (e && bf) ≡ true
and-mono true bg bf h k = h refl k
and-mono false bg bf h k = k

-- a larger test sees no less
above-mono : (f g : TimeParts → Bool) (o : ObjectId) (m : List Mark) (x : TimeParts) →
    Starts (λ y. g y ≡ true → f y ≡ true) o m → starts_above (scan g o m) x ≡ true → starts_above (scan f o m) x ≡ true
unfolding scan
above-mono f g o [] x h k = k
above-mono f g o (Put a y v ∷ m) x h k =
    above-pick (same_object a o && f y) (record { place = version_count o m; start = y; value = v }) (scan f o m) x ∙
    or-mono (same_object a o) (g y) (f y) (lt x y) (starts_above (scan g o m) x) (starts_above (scan f o m) x)
    (λ e. h.0 (same_object-is a o e)) (above-mono f g o m x h.1)
    (sym (above-pick (same_object a o && g y) (record { place = version_count o m; start = y; value = v }) (scan g o m) x) ∙ k)
above-mono f g o (Stretch a y ∷ m) x h k = above-mono f g o m x h k
above-mono f g o (Settle s c ∷ m) x h k = above-mono f g o m x h k
above-mono f g o (Floor z ∷ m) x h k = above-mono f g o m x h k

pub two-tests : (f g : TimeParts → Bool) (o : ObjectId) (m : List Mark) →
    Starts (λ x. g x ≡ true → f x ≡ true) o m → Passes g (scan f o m) → scan g o m ≡ scan f o m
unfolding scan pick
two-tests f g o [] h p = refl
two-tests f g o (Put a x v ∷ m) h p =
    choose (same_object a o && f x) (same_object a o && g x) (starts_above (scan f o m) x) (starts_above (scan g o m) x)
    (Some (record { place = version_count o m; start = x; value = v })) (scan f o m) (scan g o m)
    (and-mono (same_object a o) (g x) (f x) (λ e. h.0 (same_object-is a o e)))
    (above-mono f g o m x h.1)
    (λ e. ap (λ r. starts_above r x) e)
    (passes-picked (same_object a o) (f x) (g x) (starts_above (scan f o m) x) g (record { place = version_count o m; start = x; value = v }) (scan f o m) refl p)
    (λ e. two-tests f g o m h.1
    (passes-left ((same_object a o && f x) && not (starts_above (scan f o m) x)) g (record { place = version_count o m; start = x; value = v }) (scan f o m) p e))
two-tests f g o (Stretch a x ∷ m) h p = two-tests f g o m h p
two-tests f g o (Settle s c ∷ m) h p = two-tests f g o m h p
two-tests f g o (Floor z ∷ m) h p = two-tests f g o m h p
