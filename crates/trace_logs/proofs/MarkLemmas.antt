-- What a log adds to histories, in either direction.
use Rattle.trace_logs.proofs.Names.{get_or, take_more, StampParts, same_stamp, Effect, ◌≡◌, ◌≢◌, ◌⊎◌, ◌<◌, ◌+◌, ℕ, zero, suc, Bool, true, false, ◌||◌, List, [], ◌∷◌, ◌++◌, take, length, reverse, refl, sym, ap, ◌∙◌, inl, inr, arith, reverse-append}
use Rattle.pseudo_time.specs.declared.decisions.Decision.{Decision}
use Rattle.effect_form.specs.declared.effects.Effect.TheVariants.{Put, Stretch, Begin, Decide, Learn, Run, Act, Try, Got, Acked, End, Mark, Whole}
use Rattle.repository_log.specs.Logs.{knows}

with-false : (a b : Bool) → (a || b) ≡ ((a || false) || b)
with-false true b = refl
with-false false b = refl

pub knows-one : (f : Effect) (l : List Effect) (s : StampParts) → knows (f ∷ l) s ≡ (knows (f ∷ []) s || knows l s)
unfolding knows
knows-one (Decide p d) l s = with-false (same_stamp p s) (knows l s)
knows-one (Learn p c) l s = with-false (same_stamp p s) (knows l s)
knows-one (Put o x v) l s = refl
knows-one (Stretch o x) l s = refl
knows-one (Begin p d) l s = refl
knows-one (Run n) l s = refl
knows-one (Act i h t n c b) l s = refl
knows-one (Try i p) l s = refl
knows-one (Got k v) l s = refl
knows-one (Acked k) l s = refl
knows-one (End i e) l s = refl
knows-one (Mark at) l s = refl
knows-one Whole l s = refl

pub knows-append : (l m : List Effect) (s : StampParts) → knows (l ++ m) s ≡ (knows l s || knows m s)
unfolding knows
knows-append [] m s = refl
knows-append (f ∷ l) m s = knows-one f (l ++ m) s ∙ ap (λ x. knows (f ∷ []) s || x) (knows-append l m s) ∙ assoc (knows (f ∷ []) s) (knows l s) (knows m s) ∙ ap (λ x. x || knows m s) (sym (knows-one f l s))
  where
    assoc : (a b c : Bool) → (a || (b || c)) ≡ ((a || b) || c)
    assoc true b c = refl
    assoc false b c = refl

-- in whatever order it stands
pub knows-reverse : (l : List Effect) (s : StampParts) → knows (reverse l) s ≡ knows l s
knows-reverse [] s = refl
knows-reverse (f ∷ l) s = ap (λ x. knows x s) (reverse-append (f ∷ []) l) ∙ knows-append (reverse l) (f ∷ []) s ∙ ap (λ x. x || knows (f ∷ []) s) (knows-reverse l s) ∙ swapped (knows l s) (knows (f ∷ []) s) ∙ sym (knows-one f l s)
  where
    swapped : (a b : Bool) → (a || b) ≡ (b || a)
    swapped true true = refl
    swapped true false = refl
    swapped false true = refl
    swapped false false = refl

-- ---- one effect

pub knows-settle : (f : Effect) (of s : StampParts) → ((d : Decision) × (f ≡ Decide of d)) ⊎ ((c : Bool) × (f ≡ Learn of c)) → knows (f ∷ []) s ≡ same_stamp of s
unfolding knows
knows-settle f of s (inl h) = ap (λ g. knows (g ∷ []) s) h.1 ∙ or-false (same_stamp of s)
  where
    or-false : (a : Bool) → (a || false) ≡ a
    or-false true = refl
    or-false false = refl
knows-settle f of s (inr h) = ap (λ g. knows (g ∷ []) s) h.1 ∙ or-false (same_stamp of s)
  where
    or-false : (a : Bool) → (a || false) ≡ a
    or-false true = refl
    or-false false = refl

pub knows-other : (f : Effect) (s : StampParts) → ((p : StampParts) (d : Decision) → f ≢ Decide p d) → ((p : StampParts) (c : Bool) → f ≢ Learn p c) → false ≡ knows (f ∷ []) s
unfolding knows
knows-other (Decide p d) s h k = absurd (h p d refl)
knows-other (Learn p c) s h k = absurd (k p c refl)
knows-other (Put o x v) s h k = refl
knows-other (Stretch o x) s h k = refl
knows-other (Begin p d) s h k = refl
knows-other (Run n) s h k = refl
knows-other (Act i g t n c b) s h k = refl
knows-other (Try i p) s h k = refl
knows-other (Got m v) s h k = refl
knows-other (Acked m) s h k = refl
knows-other (End i e) s h k = refl
knows-other (Mark at) s h k = refl
knows-other Whole s h k = refl

or-right : (a b : Bool) → b ≡ true → (a || b) ≡ true
or-right true b h = refl
or-right false b h = h

pub knows-at : (l : List Effect) (i : ℕ) (f : Effect) (s : StampParts) → i < length l → f ≡ get_or l i f → knows (f ∷ []) s ≡ true → true ≡ knows l s
knows-at [] i f s lt at h = absurd (omega (arith, lt))
knows-at (g ∷ l) zero f s lt at h = sym (knows-one g l s ∙ ap (λ z. z || knows l s) (ap (λ z. knows (z ∷ []) s) (sym at) ∙ h))
knows-at (g ∷ l) (suc i) f s lt at h = sym (knows-one g l s ∙ or-right (knows (g ∷ []) s) (knows l s) (sym (knows-at l i f s (omega (arith, lt)) at h)))

pub knows-more : (l : List Effect) (i : ℕ) (f : Effect) (s : StampParts) → i < length l → f ≡ get_or l i f → knows (take i l) s ≡ false → knows (f ∷ []) s ≡ false → knows (take (i + 1) l) s ≡ false
knows-more l i f s lt at h k = ap (λ z. knows z s) (take_more l i f lt) ∙ knows-append (take i l) (get_or l i f ∷ []) s ∙ (λ j. h j || knows (sym at j ∷ []) s) ∙ k
