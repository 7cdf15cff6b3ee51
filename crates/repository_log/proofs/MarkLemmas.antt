-- The marks of a log, part by part.
use Rattle.repository_log.proofs.Names.{◌≡◌, ◌≢◌, ℕ, Bool, true, false, ◌||◌, ◌+◌, ◌<◌, List, [], ◌∷◌, ◌++◌, length, take, get_or, reverse, refl, sym, ◌∙◌, ap, Option, Some, None, is_some, if◌then◌else◌, StampParts, same_stamp, option_to_list, append_assoc, reverse-append, take_more, Effect, Put, Stretch, Begin, Decide, Learn, Run, Act, Try, Got, Acked, End, Mark, or_else, settle_of, top, floor_of, AreMarks, mark_of, marks, known, knows}
use Rattle.pseudo_time.specs.TimeParts.{TimeParts}
use Rattle.effect_form.specs.declared.effects.Effect.TheVariants as effect
use Rattle.message_form.specs.Ranges.{AreEffects}

pub marks-append : (l m : List Effect) → marks (l ++ m) ≡ marks l ++ marks m
marks-append [] m = refl
marks-append (f ∷ l) m = ap (λ x. option_to_list (mark_of f) ++ x) (marks-append l m) ∙ sym (append_assoc (option_to_list (mark_of f)) (marks l) (marks m))

reverse-one : (o : Option Mark) → reverse (option_to_list o) ≡ option_to_list o ++ []
reverse-one None = refl
reverse-one (Some x) = refl

pub marks-reverse : (l : List Effect) → marks (reverse l) ≡ reverse (marks l)
marks-reverse [] = refl
marks-reverse (f ∷ l) =
    ap marks (reverse-append (f ∷ []) l) ∙ marks-append (reverse l) (f ∷ [])
    ∙ (λ j. marks-reverse l j ++ sym (reverse-one (mark_of f)) j)
    ∙ sym (reverse-append (option_to_list (mark_of f)) (marks l))

pub marks-in-range : (l : List Effect) → AreEffects l → AreMarks (marks l)
marks-in-range [] h = tt
marks-in-range (Put o x v ∷ l) h = ((h.0.0, h.0.2), marks-in-range l h.1)
marks-in-range (Stretch o x ∷ l) h = (h.0.0.0, marks-in-range l h.1)
marks-in-range (Decide s d ∷ l) h = (tt, marks-in-range l h.1)
marks-in-range (Learn s c ∷ l) h = (tt, marks-in-range l h.1)
marks-in-range (Begin s d ∷ l) h = marks-in-range l h.1
marks-in-range (Run n ∷ l) h = marks-in-range l h.1
marks-in-range (Act i k t n c b ∷ l) h = marks-in-range l h.1
marks-in-range (Try i s ∷ l) h = marks-in-range l h.1
marks-in-range (Got k v ∷ l) h = marks-in-range l h.1
marks-in-range (Acked k ∷ l) h = marks-in-range l h.1
marks-in-range (End i e ∷ l) h = marks-in-range l h.1
marks-in-range (effect.Mark at ∷ l) h = (tt, marks-in-range l h.1)
marks-in-range (effect.Whole ∷ l) h = marks-in-range l h.1

-- with those of one effect more
pub marks-next : (l : List Effect) (i : ℕ) (f : Effect) (old new : List Mark) → i < length l → f ≡ get_or l i f → old ≡ marks (take i l) → new ≡ old ++ option_to_list (mark_of f) → new ≡ marks (take (i + 1) l)
marks-next l i f old new lt at h n =
    n ∙ ap (λ x. x ++ option_to_list (mark_of f)) h
    ∙ ap (λ x. marks (take i l) ++ x) (nothing-after (option_to_list (mark_of f)))
    ∙ sym (marks-append (take i l) (f ∷ [])) ∙ ap (λ x. marks (take i l ++ x ∷ [])) at ∙ ap marks (sym (take_more l i f lt))
  where
    nothing-after : {X : Type 0} (xs : List X) → xs ≡ xs ++ []
    nothing-after [] = refl
    nothing-after (x ∷ xs) = ap (λ z. x ∷ z) (nothing-after xs)

-- ---- the floor

pub floor-mark : (f : Effect) (at : TimeParts) (l : List Effect) (floor new : Option TimeParts) → f ≡ effect.Mark at → new ≡ top at floor → floor ≡ floor_of (marks l) → new ≡ floor_of (marks (f ∷ l))
unfolding floor_of
floor-mark f at l floor new is put h = put ∙ ap (top at) h ∙ ap (λ g. floor_of (marks (g ∷ l))) (sym is)

pub floor-other : (f : Effect) (l : List Effect) (floor : Option TimeParts) → ((at : TimeParts) → f ≢ effect.Mark at) → floor ≡ floor_of (marks l) → floor ≡ floor_of (marks (f ∷ l))
unfolding floor_of
floor-other (Put o x v) l floor other h = h
floor-other (Stretch o x) l floor other h = h
floor-other (Decide s d) l floor other h = h
floor-other (Learn s c) l floor other h = h
floor-other (Begin s d) l floor other h = h
floor-other (Run n) l floor other h = h
floor-other (Act i k t n c b) l floor other h = h
floor-other (Try i s) l floor other h = h
floor-other (Got k v) l floor other h = h
floor-other (Acked k) l floor other h = h
floor-other (End i e) l floor other h = h
floor-other (effect.Mark at) l floor other h = absurd (other at refl)
floor-other effect.Whole l floor other h = h

-- ---- known stamps

or-else-some : (b : Bool) (u : Option Bool) (c : Bool) → is_some (if b then or_else u c else u) ≡ (b || is_some u)
or-else-some true None c = refl
or-else-some true (Some d) c = refl
or-else-some false u c = refl

-- the log knows a stamp where histories with its marks settle it
pub knows-known : (l : List Effect) (s : StampParts) → is_some (known l s) ≡ knows l s
unfolding settle_of knows
knows-known [] s = refl
knows-known (Decide p d ∷ l) s = or-else-some (same_stamp p s) (known l s) _ ∙ ap (λ x. same_stamp p s || x) (knows-known l s)
knows-known (Learn p c ∷ l) s = or-else-some (same_stamp p s) (known l s) c ∙ ap (λ x. same_stamp p s || x) (knows-known l s)
knows-known (f ∷ l) s = knows-known l s
