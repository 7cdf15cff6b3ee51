-- What a header finds is what a scan of the marks finds.
use Rattle.object_header.proofs.Names.{TimeParts, lt, lt-irreflexive, ObjectId, Value, Mark, Put, Stretch, Settle, Floor, same_object, is_alive, alive, version_count, Seen, scan, sees, newest, stretched, some_put, Settled, same-scan, starts-all, Limit, Span, Look, within, is_living, is_firm, passes, look, Fits, spans_in, Rising, ◌≡◌, Bool, true, false, List, [], ◌∷◌, refl, sym, ◌∙◌, ap, Some, None, ◌&&◌, ◌||◌, not, if◌then◌else◌, false≢true, true≢false}
use Rattle.object_header.specs.declared.limits.Limit.TheVariants as limit
use Rattle.object_header.specs.declared.heads.Look.TheVariants as found
use Rattle.object_header.proofs.SpanLemmas.{looked, firm-living}
use Rattle.object_header.proofs.RisingLemmas.{scan-own, scan-over, none-above}
use Rattle.object_header.proofs.HeadLemmas.{span_of}

-- what was found in a header, of the versions among the marks m
abbrev pub Says : Settled → Limit → List Mark → ObjectId → List Mark → Look → Type 0
Says settled l all o m found.Origin = (scan (passes settled l) o m ≡ None) × (some_put (λ y. is_firm settled y) o m ≡ false)
Says settled l all o m (found.Shown s) = (q : Seen) × (scan (passes settled l) o m ≡ Some q) × (s.start ≡ q.start) × (s.end ≡ stretched all o (Some q.place)) × (some_put (λ y. is_firm settled y && lt q.start y) o m ≡ false)
Says settled l all o m found.Under = some_put (λ y. is_firm settled y && not (within l y)) o m ≡ true

pub passes-lives : (settled : Settled) (l : Limit) (y : TimeParts) → passes settled l y ≡ true → is_living settled y ≡ true
passes-lives settled l y h = left (is_living settled y) (within l y) h
  where
    left : (a b : Bool) → (a && b) ≡ true → a ≡ true
    left true b h = refl
    left false b h = h

or_none : (a b : Bool) → a ≡ false → b ≡ false → (a || b) ≡ false
or_none true b h k = absurd (true≢false h)
or_none false b h k = k

or_some : (a b : Bool) → b ≡ true → (a || b) ≡ true
or_some true b h = refl
or_some false b h = h

or_here : (a b : Bool) → a ≡ true → (a || b) ≡ true
or_here true b h = refl
or_here false b h = absurd (false≢true h)

and_off : (a b c : Bool) → b ≡ false → (a && (b && c)) ≡ false
and_off true true c h = absurd (true≢false h)
and_off true false c h = refl
and_off false b c h = refl

and_off_last : (a b : Bool) → b ≡ false → (a && b) ≡ false
and_off_last true b h = h
and_off_last false b h = refl

and_three : (a b c : Bool) → a ≡ true → b ≡ true → c ≡ false → (a && (b && not c)) ≡ true
and_three true true false h k j = refl
and_three true true true h k j = absurd (true≢false j)
and_three true false c h k j = absurd (false≢true k)
and_three false b c h k j = absurd (false≢true h)

-- a version that isn't found, and isn't committed
module _ (settled : Settled) (l : Limit) (all : List Mark) (o a : ObjectId) (y : TimeParts) (v : Value) (m : List Mark) where
  says-over : (r : Look) → (same_object a o && passes settled l y) ≡ false → (same_object a o && is_firm settled y) ≡ false → Says settled l all o m r → Says settled l all o (Put a y v ∷ m) r
  unfolding some_put
  says-over found.Origin over loose h = (scan-over (passes settled l) o a y v m over ∙ h.0, or_none (same_object a o && is_firm settled y) (some_put (λ z. is_firm settled z) o m) loose h.1)
  says-over (found.Shown s) over loose (q, is, start, end, none) = (
    q,
    scan-over (passes settled l) o a y v m over ∙ is,
    start,
    end,
    or_none (same_object a o && (is_firm settled y && lt q.start y)) (some_put (λ z. is_firm settled z && lt q.start z) o m) (less (same_object a o) (is_firm settled y) (lt q.start y) loose) none,
  )
    where
      less : (a b c : Bool) → (a && b) ≡ false → (a && (b && c)) ≡ false
      less true true c h = absurd (true≢false h)
      less true false c h = refl
      less false b c h = refl
  says-over found.Under over loose h = or_some (same_object a o && (is_firm settled y && not (within l y))) (some_put (λ z. is_firm settled z && not (within l z)) o m) h

  says-own : (b w c : Bool) (rest : Look) → is_living settled y ≡ b → within l y ≡ w → is_firm settled y ≡ c → same_object a o ≡ true → Rising settled o (Put a y v ∷ m) → Says settled l all o m rest →
      Says settled l all o (Put a y v ∷ m) (looked b w c (span_of y (stretched all o (Some (version_count o m)))) rest)
  unfolding some_put
  says-own false w c rest living inside firm same rising h =
      says-over rest (and_off (same_object a o) (is_living settled y) (within l y) living) (and_off_last (same_object a o) (is_firm settled y) (unfirm (is_firm settled y) refl)) h
    where
      unfirm : (d : Bool) → is_firm settled y ≡ d → d ≡ false
      unfirm true is = absurd (true≢false (sym (firm-living settled y is) ∙ living))
      unfirm false is = refl
  says-own true true c rest living inside firm same rising h = (
    record { place = version_count o m; start = y; value = v },
    scan-own settled (passes settled l) o a y v m (passes-lives settled l) (rising.0 same) same (both (is_living settled y) (within l y) living inside),
    refl,
    refl,
    or_none (same_object a o && (is_firm settled y && lt y y)) (some_put (λ z. is_firm settled z && lt y z) o m) (last (same_object a o) (is_firm settled y) (lt y y) (lt-irreflexive y)) (none-above settled o y m (rising.0 same)),
  )
    where
      both : (a b : Bool) → a ≡ true → b ≡ true → (a && b) ≡ true
      both true b h k = k
      both false b h k = absurd (false≢true h)

      last : (a b c : Bool) → c ≡ false → (a && (b && c)) ≡ false
      last true true c h = h
      last true false c h = refl
      last false b c h = refl
  says-own true false true rest living inside firm same rising h =
      or_here (same_object a o && (is_firm settled y && not (within l y))) (some_put (λ z. is_firm settled z && not (within l z)) o m) (and_three (same_object a o) (is_firm settled y) (within l y) same firm inside)
  says-own true false false rest living inside firm same rising h =
      says-over rest (off (same_object a o) (is_living settled y) (within l y) inside) (and_off_last (same_object a o) (is_firm settled y) firm) h
    where
      off : (a b c : Bool) → c ≡ false → (a && (b && c)) ≡ false
      off true true c h = h
      off true false c h = refl
      off false b c h = refl

pub look-says : (settled : Settled) (l : Limit) (all : List Mark) (o : ObjectId) (m : List Mark) → Rising settled o m → Says settled l all o m (look settled l (spans_in all o m))
unfolding spans_in look scan some_put
look-says settled l all o [] rising = (refl, refl)
look-says settled l all o (Put a y v ∷ m) rising = own (same_object a o) refl (look-says settled l all o m rising.1)
  where
    s : Span
    s = span_of y (stretched all o (Some (version_count o m)))

    own : (b : Bool) → same_object a o ≡ b → Says settled l all o m (look settled l (spans_in all o m)) → Says settled l all o (Put a y v ∷ m) (look settled l (if b then s ∷ spans_in all o m else spans_in all o m))
    own true same says = says-own settled l all o a y v m (is_living settled y) (within l y) (is_firm settled y) (look settled l (spans_in all o m)) refl refl refl same rising says
    own false other says = says-over settled l all o a y v m (look settled l (spans_in all o m)) (ap (λ b. b && passes settled l y) other) (ap (λ b. b && is_firm settled y) other) says
look-says settled l all o (Stretch a y ∷ m) rising = look-says settled l all o m rising
look-says settled l all o (Settle s c ∷ m) rising = look-says settled l all o m rising
look-says settled l all o (Floor z ∷ m) rising = look-says settled l all o m rising

-- ---- what reads and writes see

pub living-is : (m : List Mark) (settled : Settled) (y : TimeParts) → Fits m settled → is_living settled y ≡ alive m y
living-is m settled y fits = ap is_alive (fits y.stamp)

and-swap : (a b c : Bool) → b ≡ c → (b && a) ≡ (a && c)
and-swap true true c h = h
and-swap true false c h = h
and-swap false true c h = refl
and-swap false false c h = refl

pub sees-is : (m : List Mark) (settled : Settled) (o : ObjectId) (t : TimeParts) → Fits m settled → sees m o t ≡ scan (passes settled (limit.Below t)) o m
sees-is m settled o t fits = sym (same-scan (passes settled (limit.Below t)) (λ x. lt x t && alive m x) o m (starts-all _ o m (λ y. and-swap (lt y t) (is_living settled y) (alive m y) (living-is m settled y fits))))

and-true : (a b : Bool) → a ≡ b → (a && true) ≡ b
and-true true b h = h
and-true false b h = h

pub newest-is : (m : List Mark) (settled : Settled) (o : ObjectId) → Fits m settled → newest m o ≡ scan (passes settled limit.All) o m
newest-is m settled o fits = sym (same-scan (passes settled limit.All) (λ x. alive m x) o m (starts-all _ o m (λ y. and-true (is_living settled y) (alive m y) (living-is m settled y fits))))

pub newest-living : (m : List Mark) (settled : Settled) (o : ObjectId) → Fits m settled → newest m o ≡ scan (λ y. is_living settled y) o m
newest-living m settled o fits = sym (same-scan (λ y. is_living settled y) (λ x. alive m x) o m (starts-all _ o m (λ y. living-is m settled y fits)))
