-- A log that has one entry more, and the last places of its objects.
use Rattle.std.specs.Ordering.{is_eq}
use Rattle.page_form.proofs.Names.{some_is, ObjectId, object_cmp, Effect, Place, IsBack, IsWritten, IsEffect, Entry, Log, effects_of, put_object, is_object, last_from, Heads, HeadsFit, ArePlaces, ◌≡◌, [], ◌∷◌, ◌++◌, cond, Option, Some, None, refl, sym, ◌∙◌, ap, subst, inl, inr, get, Updates, cases_Bool, cond-true, cond-false, map-append}
use Rattle.effect_form.specs.declared.effects.Effect.TheVariants.{Put, Stretch, Begin, Decide, Learn, Run, Act, Try, Got, Acked, End, Mark, Whole}

pub last_from-push : (before : Option Place) (log : Log) (e : Entry) (object : ObjectId) → last_from before (log ++ e ∷ []) object ≡ cond (is_object (put_object e.effect) object) (Some e.place) (last_from before log object)
last_from-push before [] e object = refl
last_from-push before (x ∷ log) e object = last_from-push (cond (is_object (put_object x.effect) object) (Some x.place) before) log e object

-- an entry more that is no Put
pub heads_same : (heads : Heads) (log : Log) (e : Entry) → put_object e.effect ≡ None → HeadsFit heads log → HeadsFit heads (log ++ e ∷ [])
heads_same heads log e no_put fits object = fits object ∙ sym (last_from-push None log e object ∙ ap (λ (o : Option ObjectId). cond (is_object o object) (Some e.place) (last_from None log object)) no_put)

-- an entry more that is a Put
pub heads_push : (heads heads' : Heads) (log : Log) (e : Entry) (put : ObjectId) → put_object e.effect ≡ Some put → HeadsFit heads log → Updates object_cmp heads heads' put (Some e.place) → HeadsFit heads' (log ++ e ∷ [])
heads_push heads heads' log e put is fits updates object =
    updates.0 object
    ∙ ap (λ (o : Option Place). cond (is_eq (object_cmp put object)) (Some e.place) o) (fits object)
    ∙ sym (last_from-push None log e object ∙ ap (λ (o : Option ObjectId). cond (is_object o object) (Some e.place) (last_from None log object)) is)

-- what holds of each place that is kept
pub kept_push : (P : Place → Type 0) (heads heads' : Heads) (put : ObjectId) (at : Place) → P at → ((object : ObjectId) (place : Place) → get object_cmp heads object ≡ Some place → P place) → Updates object_cmp heads heads' put (Some at)
    → (object : ObjectId) (place : Place) → get object_cmp heads' object ≡ Some place → P place
kept_push P heads heads' put at good places updates object place is = elim (cases_Bool (is_eq (object_cmp put object))) [
  | inl here ↦ subst (λ (p : Place). P p) (some_is at place (sym (cond-true (is_eq (object_cmp put object)) (Some at) (get object_cmp heads object) here) ∙ sym (updates.0 object) ∙ is)) good
  | inr other ↦ places object place (sym (cond-false (is_eq (object_cmp put object)) (Some at) (get object_cmp heads object) other) ∙ sym (updates.0 object) ∙ is)
]

-- an effect in its ranges has bytes with any back place that it may have
pub has_back : (e : Effect) (back : Option Place) → IsEffect e → IsBack back → (put_object e ≡ None → back ≡ None) → IsWritten (e, back)
has_back (Put object start v) back h good other = (h.0, h.1, h.2, good)
has_back (Stretch object at) back h good other = (h.0, other refl)
has_back (Begin stamp deadline) back h good other = (h.0, other refl)
has_back (Decide stamp decision) back h good other = (h.0, other refl)
has_back (Learn stamp committed) back h good other = (h.0, other refl)
has_back (Run number) back h good other = (h.0, other refl)
has_back (Act index home timeout tries clock script) back h good other = (h.0, other refl)
has_back (Try index stamp) back h good other = (h.0, other refl)
has_back (Got step v) back h good other = (h.0, other refl)
has_back (Acked step) back h good other = (h.0, other refl)
has_back (End index outcome) back h good other = (h.0, other refl)
has_back (Mark at) back h good other = (h.0, other refl)
has_back Whole back h good other = (h.0, other refl)

pub effects_of-append : (a b : Log) → effects_of (a ++ b) ≡ effects_of a ++ effects_of b
effects_of-append a b = map-append (λ (e : Entry). e.effect) a b

-- the back place that the heads give
pub written_push : (heads : Heads) (e : Effect) (put : ObjectId) (back : Option Place) → back ≡ get object_cmp heads put → put_object e ≡ Some put → ArePlaces heads → IsEffect e → IsWritten (e, back)
written_push heads e put back is put_is places h = has_back e back h (good back is) (λ no_put. absurd (cc (sym no_put ∙ put_is)))
  where
    good : (b : Option Place) → b ≡ get object_cmp heads put → IsBack b
    good None at = tt
    good (Some place) at = places put place (sym at)
