-- The log of a repository with all versions that ever stood in it, by the logs of its volumes.
use Rattle.std.specs.Prelude.{◌≡◌, Bool, false, not, List, [], ◌∷◌, map, reverse, is_some}
use Rattle.std.specs.BTreeMap.{get}
use Rattle.std.specs.Ordering.{ordering_then}
use Rattle.std.specs.declared.cmp.Ordering.{Ordering}
use Rattle.pseudo_time.specs.TimeParts.{TimeParts, time_cmp}
use Rattle.value_form.specs.Objects.{object_cmp}
use Rattle.value_form.specs.declared.objects.ObjectId.{ObjectId}
use Rattle.effect_form.specs.declared.effects.Effect.{Effect}
use Rattle.effect_form.specs.declared.effects.Effect.TheVariants.{Put}
use Rattle.object_retirement.specs.Stood.{has_start}
use Rattle.repository_core.specs.Logs.{marks}
use Rattle.serial_law.specs.Wholes.{whole_log}
use Rattle.log_replay.specs.declared.wholes.Start.{Start}
use Rattle.log_replay.specs.declared.wholes.Whole.{Whole}

-- the last of these logs, with the versions of the others that it lacks; the last one stands at the front, and each newest effect first
abbrev pub whole_back : List (List Effect) → List Effect
whole_back [] = []
whole_back (log ∷ olds) = whole_log olds log

-- the same of logs in their order, oldest effect first
abbrev pub whole_in : List (List Effect) → List Effect
whole_in logs = reverse (whole_back (map reverse (reverse logs)))

-- ---- what the code keeps

-- an effect puts a version that the log lacks
abbrev pub is_new : Effect → List Effect → Bool
is_new (Put o x v) log = not (has_start o x (marks log))
is_new _ log = false

-- by object, then start
abbrev pub start_cmp : Start → Start → Ordering
start_cmp a b = ordering_then (object_cmp a.object b.object) (time_cmp a.start b.start)

-- it has this log, newest effect first, and knows the objects and starts of its versions
pub record IsWhole (log : List Effect) (w : Whole) : Type 0 where
  pub log_is : reverse w.log.items ≡ log
  pub met : (o : ObjectId) (x : TimeParts) → is_some (get start_cmp w.met (record { object = o; start = x })) ≡ has_start o x (marks log)
