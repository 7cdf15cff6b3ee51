-- A script that is given answers over a map, with its own writes so far.
use Rattle.std.specs.Prelude.{◌≡◌, ◌↔◌, ℕ, Option, Some, None, Bool, true, false, List, [], ◌∷◌, ◌++◌, Result, Ok, Err}
use Rattle.pseudo_time.specs.StampParts.{StampParts}
use Rattle.value_form.specs.declared.transcripts.Line.{Line}
use Rattle.serial_model.specs.Deeds.{Version, lines_written}
use Rattle.value_form.specs.Mirror.{block}
use Rattle.value_form.specs.Objects.{Objects}
use Rattle.script_meaning.specs.Meaning.{Answer}
use Rattle.script_run.specs.RunParts.{RunParts}
use Rattle.serial_model.specs.Overlays.{overlaid}
use Rattle.serial_model.specs.Questions.{Tree, denote, AnswersOf, left_after}
use Rattle.script_replay.specs.declared.attempts.Attempt.{Attempt}
use Rattle.script_replay.specs.declared.attempts.Told.{Told}
use Rattle.script_replay.specs.declared.attempts.Told.TheVariants.{Tried}
use Rattle.script_replay.specs.declared.replays.Difference.{Difference}
use Rattle.script_replay.specs.Replays.{Fails, IsReplay, OneReplays, after_told}

abbrev pub tree_run : RunParts → Tree
tree_run r = denote (block r.script)

-- its answers are what the map gives, and with these writes over the map stands what it left
pub record Agrees (m : Objects) (run : RunParts) (writes : Objects) : Type 0 where
  pub answers : AnswersOf (tree_run run) run.answers m
  pub left : left_after (tree_run run) run.answers m ≡ overlaid writes m

-- it was given the answer, and agrees still; or no answers with that one in its place agree
abbrev pub Took : Bool → Objects → RunParts → RunParts → Objects → Answer → Type 0
Took true m old new writes a = (new.script ≡ old.script) × (new.answers ≡ old.answers ++ a ∷ []) × Agrees m new writes
Took false m old new writes a = (more : List Answer) → AnswersOf (tree_run old) (old.answers ++ a ∷ more) m → ⊥

-- it was given all of them, or they don't agree
abbrev pub TookAll : Bool → Objects → RunParts → RunParts → Objects → List Answer → Type 0
TookAll true m old new writes list = (new.script ≡ old.script) × (new.answers ≡ list) × Agrees m new writes
TookAll false m old new writes list = AnswersOf (tree_run old) list m → ⊥

-- an attempt replays, and leaves this map; or it differs so
abbrev pub HasFollowed : Objects → Attempt → Result Objects Difference → Type 0
HasFollowed m a (Ok after) = IsReplay m a × (after ≡ after_told (Tried a) m)
HasFollowed m a (Err d) = Fails d m (Tried a)

-- so of whatever is told
abbrev pub HasTold : Objects → Told → Result Objects Difference → Type 0
HasTold m x (Ok after) = OneReplays m x × (after ≡ after_told x m)
HasTold m x (Err d) = Fails d m x

-- a line is passed: beside its versions and those that follow stand these, just where those that are left stand beside the lines that follow
abbrev pub HasPassed : StampParts → ℕ → Line → List Version → Option (ℕ × List Version) → Type 0
HasPassed s n l vs None = (more : List Line) → vs ≡ lines_written s n (l ∷ more) → ⊥
HasPassed s n l vs (Some p) = (more : List Line) → (vs ≡ lines_written s n (l ∷ more)) ↔ (p.1 ≡ lines_written s p.0 more)
