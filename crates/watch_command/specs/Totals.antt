-- The totals of a repository's objects by a rule: what becomes of them, and what is written of that. Marks stand newest first, the effects of a log oldest first.
use Rattle.std.specs.Prelude.{◌≡◌, ℕ, ℤ, pos, Bool, true, List, map, filter, Option, Some, None, Result, Ok}
use Rattle.std.specs.BTreeMap.{BTreeMap, get}
use Rattle.pseudo_time.specs.TimeParts.{TimeParts}
use Rattle.pseudo_time.specs.Order.{lt}
use Rattle.value_form.specs.declared.objects.ObjectId.{ObjectId}
use Rattle.value_form.specs.declared.values.Value.TheVariants.{Number}
use Rattle.value_form.specs.Objects.{object_cmp}
use Rattle.effect_form.specs.declared.effects.Effect.{Effect}
use Rattle.effect_form.specs.declared.effects.Effect.TheVariants.{Put}
use Rattle.object_history.specs.declared.marks.Mark.{Mark}
use Rattle.commit_watch.specs.declared.faults.WatchFault.{WatchFault}
use Rattle.commit_watch.specs.declared.moved.Moved.{Moved}
use Rattle.commit_watch.specs.declared.versions.Version.{Version}
use Rattle.commit_watch.specs.Folds.{advanced}
use Rattle.commit_watch.specs.Lists.{AreRising, cursor_of, moved_at}
use Rattle.commit_watch.specs.Rules.{count_next, last_next, sum_next}
use Rattle.archive_command.specs.Archives.{last_total}
use Rattle.command_words.specs.declared.rules.Rule.{Rule}
use Rattle.command_words.specs.declared.rules.Rule.TheVariants.{Count, Sum, Last}

-- a total after one version more, or none where no number holds it; from 0 on
abbrev pub next_of : Rule → ℤ → Version → Option ℤ
next_of Count = count_next
next_of Sum = sum_next
next_of Last = last_next

-- the volume of a repository with its totals by the rule
abbrev pub totals_volume : Rule → ℕ
totals_volume Count = 1001
totals_volume Sum = 1002
totals_volume Last = 1003

-- what becomes of an object's total, which this log has, over the marks; or what refuses it
abbrev pub outcome_of : Rule → List Mark → List Effect → ObjectId → Result (Option (Moved ℤ)) WatchFault
outcome_of rule m log o = advanced (pos 0) (next_of rule) o m None (last_total log o)

-- the totals that come of it: each object once, in rising order
pub record AreTotals (rule : Rule) (m : List Mark) (log : List Effect) (list : List (Moved ℤ)) : Type 0 where
  pub rising : AreRising list
  pub each : (o : ObjectId) → outcome_of rule m log o ≡ Ok (moved_at o list)

-- the total was folded further than this
abbrev pub went_on : Option TimeParts → Moved ℤ → Bool
went_on None t = true
went_on (Some cursor) t = lt cursor t.cursor

abbrev pub total_effect : Moved ℤ → Effect
total_effect t = Put t.object t.cursor (Number t.total)

-- a put for each object whose total went on from what the log has
abbrev pub new_puts : List Effect → List (Moved ℤ) → List Effect
new_puts log list = map total_effect (filter (λ t. went_on (cursor_of (last_total log t.object)) t) list)

-- ---- what the code keeps of a log

-- how far each object was folded
abbrev pub Cursors : Type 0
Cursors = BTreeMap ObjectId TimeParts

abbrev pub AreCursors : (ObjectId → Option (Moved ℤ)) → Cursors → Type 0
AreCursors totals cursors = (o : ObjectId) → get object_cmp cursors o ≡ cursor_of (totals o)

-- the totals that the log has
abbrev pub AreRestored : List Effect → List (Moved ℤ) → Type 0
AreRestored log list = (o : ObjectId) → moved_at o list ≡ last_total log o
