-- Attempts as logs tell them, in the words of scripts.
use Rattle.std.specs.Prelude.{◌≡◌, Bool, true, false, List, map, Option, Some, None}
use Rattle.value_form.specs.Mirror.{block}
use Rattle.value_form.specs.declared.endings.Ending.TheVariants as ending
use Rattle.effect_form.specs.declared.outcomes.Outcome.{Outcome}
use Rattle.effect_form.specs.declared.outcomes.Outcome.TheVariants as outcome
use Rattle.script_meaning.specs.Meaning as meaning
use Rattle.script_meaning.specs.Meaning.{Answer, Stop, Over}
use Rattle.serial_model.specs.Deeds.{Version}
use Rattle.serial_model.specs.Questions.{Tree, denote}
use Rattle.script_replay.specs.declared.attempts.Attempt.{Attempt}
use Rattle.script_replay.specs.declared.attempts.Put.{Put}
use Rattle.script_replay.specs.declared.attempts.Reply.{Reply}
use Rattle.script_replay.specs.declared.attempts.Told.{Told}
use Rattle.script_replay.specs.declared.attempts.Told.TheVariants as told
use Rattle.pseudo_time.specs.StampParts.{StampParts}
use Rattle.script_replay.specs.declared.attempts.Reply.TheVariants as reply

-- an answer as scripts know it
abbrev pub answer_of : Reply → Answer
answer_of (reply.Got v) = meaning.Got v
answer_of reply.Stored = meaning.Stored

abbrev pub answers_of : List Reply → List Answer
answers_of = map answer_of

abbrev pub version_of : Put → Version
version_of p = record { object = p.object; start = p.start; value = p.value }

abbrev pub versions_of : List Put → List Version
versions_of = map version_of

-- the stamp of which this is told
abbrev pub stamp_of : Told → StampParts
stamp_of (told.Tried a) = a.stamp
stamp_of (told.Given s ps) = s

-- what the attempt asks and says
abbrev pub tree_of : Attempt → Tree
tree_of a = denote (block a.script.lines)

-- An attempt that stops so may have this End, or none: a committed one is finished, and ends so or hasn't heard it yet; another one
-- isn't said to be committed, and withdraws or fails where its script does.
abbrev pub EndsSo : Bool → Option Outcome → Stop → Type 0
EndsSo true None s = s ≡ Over ending.Finished
EndsSo true (Some outcome.Committed) s = s ≡ Over ending.Finished
EndsSo true (Some _) s = ⊥
EndsSo false None s = Unit {0}
EndsSo false (Some outcome.Committed) s = ⊥
EndsSo false (Some (outcome.Withdrawn l)) s = s ≡ Over (ending.Withdrawn l)
EndsSo false (Some (outcome.Failed l k)) s = s ≡ Over (ending.Failed l k)
EndsSo false (Some _) s = Unit {0}
