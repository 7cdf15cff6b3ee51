-- How many bytes effects take, and that a back place changes no range.
use Rattle.std.proofs.Common.{◌≡◌, ℕ, ◌≤◌, nat_le, List, ◌∷◌, ◌++◌, length, Option, None, refl, ap, arith, length-append, inl, inr}
use Rattle.effect_form.proofs.Names.{w16, w32, to_be_bytes, decision_text, Value, IsValue, text_bytes, value_bytes, Effect, Put, Stretch, Begin, Decide, Learn, Run, Act, Try, Got, Acked, End, Mark, Whole, Place, Outcome, Committed, Withdrawn, Failed, LaterRead, LaterVersion, Expired, Spent, Written, IsWritten, IsEffect, back_bytes, effect_bytes, size_of, outcome_bytes}
use Rattle.std.proofs.lemmas.Bool.{cases_Bool, cond-true, cond-false}
use Rattle.pseudo_time.specs.declared.decisions.Decision.{Decision}
use Rattle.pseudo_time.specs.declared.decisions.Decision.TheVariants as decision
use Rattle.value_form.specs.declared.values.Value.TheVariants.{Nothing, Number, Text}

-- an effect's first byte is its tag
pub effect_cons : (w : Written) → (tag : ℕ) × (fields : List ℕ) × (effect_bytes w ≡ tag ∷ fields)
effect_cons (Put object start v, back) = (_, _, refl)
effect_cons (Stretch object at, back) = (_, _, refl)
effect_cons (Begin stamp deadline, back) = (_, _, refl)
effect_cons (Decide stamp decision, back) = (_, _, refl)
effect_cons (Learn stamp committed, back) = (_, _, refl)
effect_cons (Run number, back) = (_, _, refl)
effect_cons (Act index home timeout tries clock script, back) = (_, _, refl)
effect_cons (Try index stamp, back) = (_, _, refl)
effect_cons (Got step v, back) = (_, _, refl)
effect_cons (Acked step, back) = (_, _, refl)
effect_cons (End index outcome, back) = (_, _, refl)
effect_cons (Mark at, back) = (_, _, refl)
effect_cons (Whole, back) = (_, _, refl)

pub size_some : (e : Effect) → 1 ≤ size_of e
size_some e = let first = effect_cons (e, None) in omega (arith, ap length first.2)

-- a tag, the length in two bytes or in four, and the text
text_most : (bytes : List ℕ) → length bytes ≤ 65536 → length (text_bytes bytes) ≤ 65541
text_most bytes most = elim (cases_Bool (nat_le (length bytes) 1000)) [
  | inl short ↦ rw (cond-true (nat_le (length bytes) 1000) (2 ∷ (to_be_bytes w16 (length bytes) ++ bytes)) (3 ∷ (to_be_bytes w32 (length bytes) ++ bytes)) short) (omega (arith, most))
  | inr long ↦ rw (cond-false (nat_le (length bytes) 1000) (2 ∷ (to_be_bytes w16 (length bytes) ++ bytes)) (3 ∷ (to_be_bytes w32 (length bytes) ++ bytes)) long) (omega (arith, most))
]

value_most : (v : Value) → IsValue v → length (value_bytes v) ≤ 65541
value_most Nothing h = omega arith
value_most (Number z) h = omega arith
value_most (Text bytes) h = text_most bytes h.0

outcome_most : (outcome : Outcome) → length (outcome_bytes outcome) ≤ 20
outcome_most Committed = omega arith
outcome_most (Withdrawn line) = omega arith
outcome_most (Failed line why) = omega arith
outcome_most (LaterRead object end) = omega arith
outcome_most (LaterVersion object start) = omega arith
outcome_most (Expired deadline moment) = omega arith
outcome_most (Spent clock) = omega arith

decision_most : (decision : Decision) → length (decision_text decision) ≤ 17
decision_most decision.Committed = omega arith
decision_most decision.Withdrawn = omega arith
decision_most (decision.Expired deadline moment) = omega arith

-- the longest is a Put of a text of 65,536 bytes
pub size_most : (e : Effect) → IsEffect e → size_of e ≤ 65567
size_most (Put object start v) h = let most = value_most v h.2 in omega (arith, most, length-append (value_bytes v) (back_bytes None))
size_most (Stretch object at) h = omega arith
size_most (Begin stamp deadline) h = omega arith
size_most (Decide stamp decision) h = let most = decision_most decision in omega (arith, most)
size_most (Learn stamp committed) h = omega arith
size_most (Run number) h = omega arith
size_most (Act index home timeout tries clock script) h = let most = h.0.size in omega (arith, most)
size_most (Try index stamp) h = omega arith
size_most (Got step v) h = let most = value_most v h.0.1 in omega (arith, most)
size_most (Acked step) h = omega arith
size_most (End index outcome) h = let most = outcome_most outcome in omega (arith, most)
size_most (Mark at) h = omega arith
size_most Whole h = omega arith

-- an effect that is in range with a back place is in range without one
pub without_back : (e : Effect) (back : Option Place) → IsWritten (e, back) → IsEffect e
without_back (Put object start v) back h = (h.0, h.1, h.2, tt)
without_back (Stretch object at) back h = (h.0, refl)
without_back (Begin stamp deadline) back h = (h.0, refl)
without_back (Decide stamp decision) back h = (h.0, refl)
without_back (Learn stamp committed) back h = (h.0, refl)
without_back (Run number) back h = (h.0, refl)
without_back (Act index home timeout tries clock script) back h = (h.0, refl)
without_back (Try index stamp) back h = (h.0, refl)
without_back (Got step v) back h = (h.0, refl)
without_back (Acked step) back h = (h.0, refl)
without_back (End index outcome) back h = (h.0, refl)
without_back (Mark at) back h = (h.0, refl)
without_back Whole back h = (h.0, refl)
