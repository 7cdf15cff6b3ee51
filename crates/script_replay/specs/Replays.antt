-- When attempts, carried out again one after another, do what logs say of them.
use Rattle.std.specs.Prelude.{◌≡◌, true, List, [], ◌∷◌, ◌++◌, length, Result, Ok, Err, if◌then◌else◌}
use Rattle.std.specs.FinMap as finite
use Rattle.pseudo_time.specs.Lists.{Every}
use Rattle.value_form.specs.Objects.{Objects}
use Rattle.value_form.specs.Ranges.{IsScript}
use Rattle.serial_model.specs.Deeds.{lines_written, set_all}
use Rattle.serial_model.specs.Questions.{AnswersOf, left_by, stop, talked}
use Rattle.script_replay.specs.declared.attempts.Attempt.{Attempt}
use Rattle.script_replay.specs.declared.attempts.Told.{Told}
use Rattle.script_replay.specs.declared.attempts.Told.TheVariants.{Given, Tried}
use Rattle.script_replay.specs.declared.replays.Difference.{Difference}
use Rattle.script_replay.specs.declared.replays.Difference.TheVariants as difference
use Rattle.script_replay.specs.declared.replays.Differs.{Differs}
use Rattle.script_replay.specs.Attempts.{EndsSo, answers_of, tree_of, versions_of}

-- each of its answers is what the map gives, with its own writes so far
abbrev pub AnswersSo : Objects → Attempt → Type 0
AnswersSo m a = AnswersOf (tree_of a) (answers_of a.replies) m

-- its End is one that its script comes to with these answers
abbrev pub StopsSo : Attempt → Type 0
StopsSo a = EndsSo a.committed a.ended (stop (tree_of a) (answers_of a.replies))

-- where it is committed, the versions with its stamp are its Wrote lines, each with its step
abbrev pub WroteSo : Attempt → Type 0
WroteSo a = a.committed ≡ true → versions_of a.puts ≡ lines_written a.stamp 1 (talked (tree_of a) (answers_of a.replies)).lines

-- an attempt over the map that it found
pub record IsReplay (m : Objects) (a : Attempt) : Type 0 where
  pub answers : AnswersSo m a
  pub stops : StopsSo a
  pub wrote : WroteSo a

-- the map after what is told: a committed attempt is carried out alone, and what is given is written
abbrev pub after_told : Told → Objects → Objects
after_told (Tried a) m = if a.committed then left_by (tree_of a) m else m
after_told (Given s ps) m = set_all (versions_of ps) m

abbrev pub after_all : List Told → Objects → Objects
after_all [] m = m
after_all (x ∷ more) m = after_all more (after_told x m)

abbrev pub OneReplays : Objects → Told → Type 0
OneReplays m (Tried a) = IsReplay m a
OneReplays m (Given s ps) = Unit {0}

-- each over the map that the committed ones before it leave
abbrev pub AllReplay : List Told → Objects → Type 0
AllReplay [] m = Unit {0}
AllReplay (x ∷ more) m = OneReplays m x × AllReplay more (after_told x m)

-- in what an attempt differs from its script alone: in the first of these that isn't so
abbrev pub Fails : Difference → Objects → Told → Type 0
Fails difference.Answers m (Tried a) = AnswersSo m a → ⊥
Fails difference.Ending m (Tried a) = AnswersSo m a × (StopsSo a → ⊥)
Fails difference.Versions m (Tried a) = AnswersSo m a × StopsSo a × (WroteSo a → ⊥)
Fails d m (Given s ps) = ⊥

-- those before this place replay, and the one there differs
pub record FirstDiffers (all : List Told) (d : Differs) : Type 0 where
  pub before : List Told
  pub here : Told
  pub rest : List Told
  pub parts : all ≡ before ++ here ∷ rest
  pub place : d.place ≡ length before
  pub replay : AllReplay before finite.empty
  pub fails : Fails d.difference (after_all before finite.empty) here

-- all of them replay, and this is the map that they leave; or the first that differs
abbrev pub HasReplayed : List Told → Result Objects Differs → Type 0
HasReplayed all (Ok m) = AllReplay all finite.empty × (m ≡ after_all all finite.empty)
HasReplayed all (Err d) = FirstDiffers all d

-- what is in range of an attempt is so by its script
abbrev pub HasScript : Told → Type 0
HasScript (Tried a) = IsScript a.script.lines
HasScript (Given s ps) = Unit {0}

abbrev pub HaveScripts : List Told → Type 0
HaveScripts = Every HasScript
