-- What a watch tells, and what it leaves of its totals, where a past of runs, retirements and watches left what it found.
use Rattle.std.specs.Prelude.{◌≡◌, ℕ, ℤ, pos, List, ◌∷◌, ◌++◌, map, take, Some, None, Ok}
use Rattle.value_form.specs.declared.objects.ObjectId.{ObjectId}
use Rattle.effect_form.specs.declared.effects.Effect.{Effect}
use Rattle.object_history.specs.Settled.{settled_versions}
use Rattle.commit_watch.specs.declared.moved.Moved.{Moved}
use Rattle.commit_watch.specs.Folds.{moved_over, version_of}
use Rattle.commit_watch.specs.Lists.{AreRising, moved_at}
use Rattle.archive_law.specs.Totals.{AreWatches, CountsAll, Event, archive_then, calls_of, totals_of}
use Rattle.archive_law.specs.Totals.Event.{Watching}
use Rattle.snapshot_command.specs.Archives.{last_total, newest_first}
use Rattle.command_words.specs.declared.rules.Rule.{Rule}
use Rattle.snapshot_command.specs.Lines.{watch_text}
use Rattle.snapshot_command.specs.Totals.{next_of}
use Rattle.snapshot_command.specs.Watches.{IsReady}
use Rattle.archive_promise.specs.Answered.{WereLeft}

-- the repository's volumes have the logs that the runs and retirements left, and the log of totals has the totals that the watches left
pub record TotalsWereLeft (es : List (Event ℤ)) (rule : Rule) (r : ℕ) (logs : List (List Effect)) (log : List Effect) : Type 0 where
  pub volumes : WereLeft (calls_of es) r logs
  pub watches : AreWatches (pos 0) (next_of rule) r es
  pub totals : (o : ObjectId) → last_total log o ≡ totals_of es o

-- The text lists in rising order the totals of the objects with a stable version: what the rule makes of all of these. Each is of all committed
-- versions of its object that ever stood, up to its cursor.
pub record TellsTotals (es : List (Event ℤ)) (rule : Rule) (r : ℕ) (text : List ℕ) : Type 0 where
  pub list : List (Moved ℤ)
  pub is_text : text ≡ watch_text r rule list
  pub rising : AreRising list
  pub settled : (o : ObjectId) → moved_over (pos 0) (next_of rule) o None (map (version_of o) (settled_versions (archive_then r es) o)) ≡ Ok (moved_at o list)
  pub counted : (o : ObjectId) (w : Moved ℤ) → moved_at o list ≡ Some w → CountsAll (pos 0) (next_of rule) (calls_of es) r o w

-- whatever front of the puts stands behind the log, its totals are those that the watch left
abbrev pub LeavesTotals : List (Event ℤ) → Rule → ℕ → List (List Effect) → List Effect → List Effect → Type 0
LeavesTotals es rule r logs log puts = (k : ℕ) → TotalsWereLeft (Watching (last_total (log ++ take k puts)) ∷ es) rule r logs (log ++ take k puts)

-- over whatever past
abbrev pub CountsOn : Rule → ℕ → List (List Effect) → List Effect → List Effect → List ℕ → Type 0
CountsOn rule r logs log puts text = (es : List (Event ℤ)) → TotalsWereLeft es rule r logs log → TellsTotals es rule r text × LeavesTotals es rule r logs log puts

-- so it is of whatever totals are ready over these volumes
abbrev pub CountsOver : Rule → ℕ → List (List Effect) → Type 0
CountsOver rule r logs = (log puts : List Effect) (text : List ℕ) → IsReady r rule (newest_first logs) log puts text → CountsOn rule r logs log puts text
