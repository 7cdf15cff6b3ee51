-- Answers that a script was given, and such that it doesn't ask for.
use Rattle.std.specs.Prelude.{◌≡◌, Bool, true, false, List, [], ◌∷◌, ◌++◌, map}
use Rattle.script_meaning.specs.Meaning as meaning
use Rattle.script_meaning.specs.Meaning.{Answer, Stop, Asks, Over, ToRead, ToWrite}
use Rattle.script_run.specs.RunParts.{RunParts}
use Rattle.value_form.specs.Mirror.{block}
use Rattle.serial_model.specs.Questions.{denote, stop}
use Rattle.trace_report.specs.declared.answers.Answered.{Answered}
use Rattle.trace_report.specs.declared.answers.Answered.TheVariants as answered

-- an answer as scripts know it
abbrev pub answer_of : Answered → Answer
answer_of (answered.Got v) = meaning.Got v
answer_of answered.Stored = meaning.Stored

abbrev pub answers_of : List Answered → List Answer
answers_of = map answer_of

-- the script doesn't ask for an answer of this kind there
abbrev pub IsUnasked : Stop → Answer → Type 0
IsUnasked (Asks (ToRead o)) (meaning.Got v) = ⊥
IsUnasked (Asks (ToRead o)) meaning.Stored = Unit {0}
IsUnasked (Asks (ToWrite o w)) (meaning.Got v) = Unit {0}
IsUnasked (Asks (ToWrite o w)) meaning.Stored = ⊥
IsUnasked (Over e) a = Unit {0}

-- the answer was given, or the script doesn't ask for it
abbrev pub Gave : Bool → RunParts → RunParts → Answer → Type 0
Gave true old new a = new.answers ≡ old.answers ++ a ∷ []
Gave false old new a = (new.answers ≡ old.answers) × IsUnasked (stop (denote (block old.script)) old.answers) a
