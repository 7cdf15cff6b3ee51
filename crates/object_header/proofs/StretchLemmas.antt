-- A Stretch of the object itself falls on what its header finds.
use Rattle.object_header.proofs.Names.{TimeParts, lt, ObjectId, Mark, Put, Stretch, Settle, Floor, same_object, version_count, Seen, scan, sees, place_of, same_place, top, stretched, some_put, Settled, scan-under, same_object-of, Span, Look, HeadParts, within, is_living, is_firm, passes, read_up_to, current, look, marked, with_end, ended, Fits, spans_in, Rising, IsHead, ◌≡◌, ℕ, ◌+◌, ◌≤◌, ◌<◌, Bool, true, false, List, [], ◌∷◌, refl, sym, ◌∙◌, ap, subst, Option, Some, None, ◌==◌, ◌&&◌, not, if◌then◌else◌, arith, false≢true, true≢false, common_steps}
use Rattle.object_header.specs.declared.limits.Limit.TheVariants as limit
use Rattle.object_header.specs.declared.heads.Look.TheVariants as found
use Rattle.object_header.proofs.SpanLemmas.{put, mark, looked, current-marked, look-same}
use Rattle.object_header.proofs.RisingLemmas.{scan-own, scan-over}
use Rattle.object_header.proofs.HeadLemmas.{span_of, some_put-fewer}
use Rattle.object_header.proofs.LookLemmas.{Says, look-says, sees-is, passes-lives}

-- where the Stretch doesn't fall on these versions, they are as before
spans-under : (all more : List Mark) (o : ObjectId) (m : List Mark) → ((n : ℕ) → n < version_count o m → stretched all o (Some n) ≡ stretched more o (Some n)) → spans_in all o m ≡ spans_in more o m
unfolding spans_in version_count
spans-under all more o [] h = refl
spans-under all more o (Put a x v ∷ m) h = own (same_object a o) h (spans-under all more o m)
  where
    own : (b : Bool) → ((n : ℕ) → n < (if b then version_count o m + 1 else version_count o m) → stretched all o (Some n) ≡ stretched more o (Some n)) → (((n : ℕ) → n < version_count o m → stretched all o (Some n) ≡ stretched more o (Some n)) → spans_in all o m ≡ spans_in more o m) →
        (if b then span_of x (stretched all o (Some (version_count o m))) ∷ spans_in all o m else spans_in all o m) ≡ (if b then span_of x (stretched more o (Some (version_count o m))) ∷ spans_in more o m else spans_in more o m)
    own true k again = ap (λ e. span_of x e ∷ spans_in all o m) (k (version_count o m) (omega arith)) ∙ ap (λ vs. span_of x (stretched more o (Some (version_count o m))) ∷ vs) (again (λ n low. k n (omega arith)))
    own false k again = again k
spans-under all more o (Stretch a x ∷ m) h = spans-under all more o m h
spans-under all more o (Settle s c ∷ m) h = spans-under all more o m h
spans-under all more o (Floor z ∷ m) h = spans-under all more o m h

stretched-own : (m : List Mark) (o : ObjectId) (x : TimeParts) (p : Option ℕ) → stretched (Stretch o x ∷ m) o p ≡ (if same_place (place_of (sees m o x)) p then top x (stretched m o p) else stretched m o p)
unfolding stretched
stretched-own m o x p = ap (λ b. if b && same_place (place_of (sees m o x)) p then top x (stretched m o p) else stretched m o p) (same_object-of o o refl)

-- at another place, and at this one
abbrev Under : Option Seen → ℕ → Type 0
Under None n = Unit {0}
Under (Some q) n = q.place < n

apart : (r : Option Seen) (n k : ℕ) → Under r n → n ≤ k → same_place (place_of r) (Some k) ≡ false
apart None n k h le = refl
apart (Some q) n k h le = grind (arith, common_steps)

below : (p n : ℕ) → n < p → (p == n) ≡ false
below p n h = grind (arith, common_steps)

level : (n : ℕ) → (n == n) ≡ true
level n = grind (arith, common_steps)

-- one version, before and after
own_step : (b d c : Bool) (s r t : Span) (ss ts : List Span) (cur mk : List Span → List Span) → ((zs : List Span) → cur (s ∷ zs) ≡ put b c s (cur zs)) → ((zs : List Span) → cur (t ∷ zs) ≡ put b c t (cur zs)) → ((b && d) ≡ false → cur (mk ss) ≡ cur ts) →
    (b ≡ true → d ≡ true → (r ≡ t) × (ss ≡ ts)) → (b ≡ true → d ≡ false → s ≡ t) → cur (mark b d c s r ss (mk ss)) ≡ cur (t ∷ ts)
own_step false d c s r t ss ts cur mk at at_t is hit miss = at (mk ss) ∙ is refl ∙ sym (at_t ts)
own_step true true c s r t ss ts cur mk at at_t is hit miss = let h = hit refl refl in ap (λ z. cur (z ∷ ss)) h.0 ∙ ap (λ zs. cur (t ∷ zs)) h.1
own_step true false true s r t ss ts cur mk at at_t is hit miss = at ss ∙ ap (λ z. z ∷ []) (miss refl refl) ∙ sym (at_t ts)
own_step true false false s r t ss ts cur mk at at_t is hit miss = at (mk ss) ∙ ap (λ zs. s ∷ zs) (is refl) ∙ ap (λ z. z ∷ cur ts) (miss refl refl) ∙ sym (at_t ts)

and_true : (a b : Bool) → a ≡ true → b ≡ true → (a && b) ≡ true
and_true true b h k = k
and_true false b h k = absurd (false≢true h)

and_last : (a b c : Bool) → c ≡ false → (a && (b && c)) ≡ false
and_last true true c h = h
and_last true false c h = refl
and_last false b c h = refl

and_nor : (a b : Bool) → b ≡ false → (a && b) ≡ false
and_nor true b h = h
and_nor false b h = refl

module _ (settled : Settled) (all : List Mark) (o : ObjectId) (x : TimeParts) where
  abbrev more : List Mark
  more = Stretch o x ∷ all

  abbrev ok : TimeParts → Bool
  ok y = passes settled (limit.Below x) y

  pub spans-marked : (m : List Mark) → Rising settled o m → sees all o x ≡ scan ok o m → current settled (marked settled x (spans_in all o m)) ≡ current settled (spans_in more o m)
  unfolding spans_in marked current scan
  spans-marked [] rising seen = refl
  spans-marked (Put a y v ∷ m) rising seen = own (same_object a o) refl (spans-marked m rising.1)
    where
      n : ℕ
      n = version_count o m

      before : Span
      before = span_of y (stretched all o (Some n))

      after : Span
      after = span_of y (stretched more o (Some n))

      miss : same_object a o ≡ true → (is_living settled y ≡ true) → lt y x ≡ false → before ≡ after
      miss same living high =
          ap (span_of y) (sym (stretched-own all o x (Some n)
          ∙ ap (λ b. if b then top x (stretched all o (Some n)) else stretched all o (Some n))
          (ap (λ r. same_place (place_of r) (Some n)) (seen ∙ scan-over ok o a y v m (and_last (same_object a o) (is_living settled y) (lt y x) high)) ∙ apart (scan ok o m) n n (scan-under ok o m) (omega arith))))

      hit : same_object a o ≡ true → (is_living settled y ≡ true) → lt y x ≡ true → (read_up_to x before ≡ after) × (spans_in all o m ≡ spans_in more o m)
      hit same living low =
          let found = seen ∙ scan-own settled ok o a y v m (passes-lives settled (limit.Below x)) (rising.0 same) same (and_true (is_living settled y) (lt y x) living low) in (
            ap (span_of y) (sym (stretched-own all o x (Some n) ∙ ap (λ b. if b then top x (stretched all o (Some n)) else stretched all o (Some n)) (ap (λ r. same_place (place_of r) (Some n)) found ∙ level n))),
            spans-under all more o m (λ k less. sym (stretched-own all o x (Some k) ∙ ap (λ b. if b then top x (stretched all o (Some k)) else stretched all o (Some k)) (ap (λ r. same_place (place_of r) (Some k)) found ∙ below n k less))),
          )

      own : (b : Bool) → same_object a o ≡ b → (sees all o x ≡ scan ok o m → current settled (marked settled x (spans_in all o m)) ≡ current settled (spans_in more o m)) → current settled (marked settled x (if b then before ∷ spans_in all o m else spans_in all o m)) ≡ current settled (if b then after ∷ spans_in more o m else spans_in more o m)
      own true same again =
          own_step (is_living settled y) (lt y x) (is_firm settled y) before (read_up_to x before) after (spans_in all o m) (spans_in more o m) (current settled) (marked settled x) (λ zs. refl) (λ zs. refl)
          (λ no. again (seen ∙ scan-over ok o a y v m (and_nor (same_object a o) (is_living settled y && lt y x) no)))
          (λ living low. hit same living low) (λ living high. miss same living high)
      own false same again = again (seen ∙ scan-over ok o a y v m (ap (λ b. b && ok y) same))
  spans-marked (Stretch a y ∷ m) rising seen = spans-marked m rising seen
  spans-marked (Settle s c ∷ m) rising seen = spans-marked m rising seen
  spans-marked (Floor z ∷ m) rising seen = spans-marked m rising seen

-- ---- the header

origin_step : (r : Look) (seen : Option Seen) (settled : Settled) (x : TimeParts) (h : HeadParts) (e : Option TimeParts) → (r ≡ found.Origin → seen ≡ None) → ((s : Span) → r ≡ found.Shown s → (q : Seen) × (seen ≡ Some q)) → (r ≡ found.Under → ⊥) → h.origin ≡ e →
    (ended r settled x h).origin ≡ (if same_place (place_of seen) None then top x e else e)
origin_step found.Origin seen settled x h e none some under is = ap (top x) is ∙ sym (ap (λ z. if same_place (place_of z) None then top x e else e) (none refl))
origin_step (found.Shown s) seen settled x h e none some under is = let q = some s refl in is ∙ sym (ap (λ z. if same_place (place_of z) None then top x e else e) q.1)
origin_step found.Under seen settled x h e none some under is = absurd (under refl)

unmarked_step : (b d c : Bool) (s r : Span) (ss rest : List Span) (lk : Look) → ((t : Span) → looked b d c s lk ≡ found.Shown t → ⊥) → (((t : Span) → lk ≡ found.Shown t → ⊥) → rest ≡ ss) → mark b d c s r ss rest ≡ s ∷ ss
unmarked_step false d c s r ss rest lk none is = ap (λ zs. s ∷ zs) (is none)
unmarked_step true true c s r ss rest lk none is = absurd (none s refl)
unmarked_step true false true s r ss rest lk none is = refl
unmarked_step true false false s r ss rest lk none is = ap (λ zs. s ∷ zs) (is none)

unmarked : (settled : Settled) (x : TimeParts) (ss : List Span) → ((t : Span) → look settled (limit.Below x) ss ≡ found.Shown t → ⊥) → marked settled x ss ≡ ss
unfolding look marked
unmarked settled x [] none = refl
unmarked settled x (s ∷ ss) none =
    unmarked_step (is_living settled s.start) (lt s.start x) (is_firm settled s.start) s (read_up_to x s) ss (marked settled x ss) (look settled (limit.Below x) ss) none (unmarked settled x ss)

spans_step : (r : Look) (settled : Settled) (x : TimeParts) (h : HeadParts) → look settled (limit.Below x) h.spans ≡ r → (ended r settled x h).spans ≡ marked settled x h.spans
spans_step found.Origin settled x h is = sym (unmarked settled x h.spans (λ t e. origin_shown t (sym is ∙ e)))
  where
    origin_shown : (t : Span) → found.Origin ≡ found.Shown t → ⊥
    origin_shown t e = cc e
spans_step (found.Shown s) settled x h is = refl
spans_step found.Under settled x h is = sym (unmarked settled x h.spans (λ t e. under_shown t (sym is ∙ e)))
  where
    under_shown : (t : Span) → found.Under ≡ found.Shown t → ⊥
    under_shown t e = cc e

not_under : (settled : Settled) (x : TimeParts) (o : ObjectId) (m : List Mark) → some_put (λ y. is_firm settled y) o m ≡ false → some_put (λ y. is_firm settled y && not (within (limit.Below x) y)) o m ≡ true → ⊥
not_under settled x o m none some = true≢false (sym some ∙ some_put-fewer (λ y. is_firm settled y && not (within (limit.Below x) y)) (λ y. is_firm settled y) o m (λ y. left (is_firm settled y) (not (within (limit.Below x) y))) none)
  where
    left : (a b : Bool) → (a && b) ≡ true → a ≡ true
    left true b h = refl
    left false b h = h

pub head-own : (settled : Settled) (m : List Mark) (o : ObjectId) (h : HeadParts) (x : TimeParts) → Fits m settled → Rising settled o m → IsHead settled m o h → IsHead settled (Stretch o x ∷ m) o (with_end settled x h)
unfolding spans_in some_put
head-own settled m o h x fits rising is =
    let l = limit.Below x in
    let r = look settled l h.spans in
    let says : Says settled l m o m r = subst (Says settled l m o m) (sym (look-same settled l h.spans (spans_in m o m) is.spans)) (look-says settled l m o m rising) in
    let seen = sees-is m settled o x fits in
    record {
      spans = ap (current settled) (spans_step r settled x h refl) ∙ current-marked settled x h.spans ∙ ap (marked settled x) is.spans ∙ sym (current-marked settled x (spans_in m o m)) ∙ spans-marked settled m o x m rising seen;
      origin = λ none.
          origin_step r (sees m o x) settled x h (stretched m o None)
          (λ e. seen ∙ (subst (Says settled l m o m) e says).0)
          (λ s e. let q = subst (Says settled l m o m) e says in (q.0, seen ∙ q.1))
          (λ e. not_under settled x o m none (subst (Says settled l m o m) e says))
          (is.origin none)
          ∙ sym (stretched-own m o x None);
    }
