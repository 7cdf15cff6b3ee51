-- What objects hold at the end of a run, by its logs as they stand: no deed is carried out for that. Marks stand newest first.
use Rattle.std.specs.Prelude.{ℕ, zero, suc, Bool, List, [], ◌∷◌, ◌++◌, Option, if◌then◌else◌}
use Rattle.std.specs.FinMap as finite
use Rattle.pseudo_time.specs.StampParts.{StampParts}
use Rattle.value_form.specs.declared.objects.ObjectId.{ObjectId}
use Rattle.value_form.specs.declared.values.Value.{Value}
use Rattle.value_form.specs.Objects.{Objects}
use Rattle.object_history.specs.declared.marks.Mark.{Mark}
use Rattle.object_history.specs.History.{Seen, at_put, scan}
use Rattle.object_history.specs.Views.{value_of}
use Rattle.repository_log.specs.Logs.{marks}
use Rattle.world_core.specs.Deeds.{RunLogs, committed, log_of}

-- the marks in the logs of repositories 1 to this number
abbrev pub marks_to : RunLogs → ℕ → List Mark
marks_to k zero = []
marks_to k (suc r) = marks (log_of k (suc r)) ++ marks_to k r

-- those in all logs of the run
abbrev pub all_marks : RunLogs → List Mark
all_marks k = marks_to k k.repositories

-- the committed put of the object with the greatest start in the logs
abbrev pub last_put : RunLogs → ObjectId → Option Seen
last_put k o = scan (λ x. committed k x.stamp) o (all_marks k)

-- the objects with a put whose stamp passes, each with what it holds
unfoldable pub holding : (StampParts → Bool) → (ObjectId → Value) → List Mark → Objects
holding ok held [] = finite.empty
holding ok held (f ∷ m) = at_put (λ o x v below. if ok x.stamp then finite.insert below o (held o) else below) f (holding ok held m)

-- each object with a committed put has the value of the one with the greatest start
abbrev pub last_values : RunLogs → Objects
last_values k = holding (committed k) (λ o. value_of (last_put k o)) (all_marks k)
