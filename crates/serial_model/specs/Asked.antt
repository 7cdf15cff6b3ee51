-- Answers to what a script asks.
use Rattle.std.specs.Prelude.{List, [], ◌∷◌}
use Rattle.script_meaning.specs.Meaning.{ToRead, ToWrite, Stop, Asks, Over, Answer, Got, Stored}
use Rattle.serial_model.specs.Questions.{Tree, Ends, Says, Reads, Writes}

-- the answer is of the kind that is asked for there
abbrev pub IsAnswerTo : Stop → Answer → Type 0
IsAnswerTo (Asks (ToRead o)) (Got a) = Unit {0}
IsAnswerTo (Asks (ToRead o)) Stored = ⊥
IsAnswerTo (Asks (ToWrite o v)) (Got a) = ⊥
IsAnswerTo (Asks (ToWrite o v)) Stored = Unit {0}
IsAnswerTo (Over e) a = ⊥

-- each answer is to what the script asks after those before it
abbrev pub AreAsked : Tree → List Answer → Type 0
AreAsked (Ends e) [] = Unit {0}
AreAsked (Ends e) (a ∷ ans) = ⊥
AreAsked (Says a t) ans = AreAsked t ans
AreAsked (Reads o k) [] = Unit {0}
AreAsked (Reads o k) (Got a ∷ ans) = AreAsked (k a) ans
AreAsked (Reads o k) (Stored ∷ ans) = ⊥
AreAsked (Writes o a t) [] = Unit {0}
AreAsked (Writes o a t) (Stored ∷ ans) = AreAsked t ans
AreAsked (Writes o a t) (Got b ∷ ans) = ⊥
