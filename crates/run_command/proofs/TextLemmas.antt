-- Texts that are written, and what writing them asks.
use Rattle.run_command.proofs.Names.{Option, Result, IfOk, Appends, Every, Rose, Entry, Take, Crash, Down, Tick, Stop, AppendsFront, Ends, EndsIfAny, GotLine, Sinking, sinking, ◌≡◌, ◌<◌, ◌^◌, ℕ, List, [], ◌∷◌, inl, inr, Ok, Err, subst, arith, OnOk, OnErr, Go, Learn, Hear, Gate, TellsText}
use Rattle.run_rounds.specs.Clocked.{tick_moments}
use Rattle.run_rounds.specs.Replays.{IsMoment}

-- a text, or a prefix of it where the count rose
pub written : (old new : Option (List ℕ)) (before after : ℕ) (text : List ℕ) (r : Result (Unit {0}) Stop) → OnOk r (Appends old new text) → OnErr r (AppendsFront old new text) → OnErr r (Rose before after) → GotLine (sinking old new before after) text
written old new before after text (Ok u) ok front rose = inl ok
written old new before after text (Err e) ok front rose = inr (front, rose)

-- a text that was made was written, or a prefix of it
pub tells-text : {E : Type 0} (r : Result (List ℕ) E) (text : List ℕ) (there status : ℕ) (s : Sinking) → IfOk r (λ t. t ≡ text) → TellsText r there status s → EndsIfAny status s there text
tells-text (Ok t) text there status s e h = inr (subst (Ends status s there) e h)
tells-text (Err x) text there status s e h = inl h

-- the moments of a trace that a wire told can be written
pub moments-told : (es : List Entry) → Every (λ moment. moment < 2 ^ 63) (tick_moments es) → Every IsMoment es
moments-told [] h = tt
moments-told (Take node number ∷ es) h = (tt, moments-told es h)
moments-told (Go node ∷ es) h = (tt, moments-told es h)
moments-told (Learn node stamp committed ∷ es) h = (tt, moments-told es h)
moments-told (Hear node ∷ es) h = (tt, moments-told es h)
moments-told (Gate node ∷ es) h = (tt, moments-told es h)
moments-told (Crash node kept ∷ es) h = (tt, moments-told es h)
moments-told (Down node cause ∷ es) h = (tt, moments-told es h)
moments-told (Tick moment ∷ es) h = let less = h.0 in (omega (arith, less), moments-told es h.1)
