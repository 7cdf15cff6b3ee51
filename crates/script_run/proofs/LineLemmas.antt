-- Lines of a transcript, the answers that they show, and the last value.
use Rattle.script_run.proofs.Names.{◌≡◌, List, [], ◌∷◌, ◌++◌, ◌-◌, length, Some, length-append, arith, refl, ap, ◌∙◌, slice_get, Line, Got, Stored, answers_of, value_shown, shown_in, last_value}
use Rattle.value_form.specs.declared.transcripts.Line.TheVariants as line

pub answers_of-append : (a b : List Line) → answers_of (a ++ b) ≡ answers_of a ++ answers_of b
answers_of-append [] b = refl
answers_of-append (line.Read o v ∷ a) b = ap (λ z. Got v ∷ z) (answers_of-append a b)
answers_of-append (line.Wrote o v ∷ a) b = ap (λ z. Stored ∷ z) (answers_of-append a b)
answers_of-append (line.Print v ∷ a) b = answers_of-append a b

at_last : (a : List Line) (l : Line) → slice_get (a ++ l ∷ []) (length a) ≡ Some l
at_last [] l = refl
at_last (m ∷ a) l = at_last a l

pub last_value-append : (a : List Line) (l : Line) → last_value (a ++ l ∷ []) ≡ value_shown l
last_value-append a l =
    let place : length (a ++ l ∷ []) - 1 ≡ length a = omega (arith, length-append a (l ∷ [])) in
    ap (λ i. shown_in (slice_get (a ++ l ∷ []) i)) place ∙ ap shown_in (at_last a l)
