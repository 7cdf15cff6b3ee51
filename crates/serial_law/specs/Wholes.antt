-- A run with all versions that ever stood in its logs, and what of them stands there still. Logs stand newest first.
use Rattle.std.specs.Prelude.{◌≡◌, ◌⊎◌, true, List, [], ◌∷◌, Some, if◌then◌else◌}
use Rattle.pseudo_time.specs.Lists.{Every, Has}
use Rattle.pseudo_time.specs.Order.{lt}
use Rattle.pseudo_time.specs.TimeParts.{TimeParts}
use Rattle.pseudo_time.specs.declared.nodes.NodeId.{NodeId}
use Rattle.effect_form.specs.declared.effects.Effect.{Effect}
use Rattle.effect_form.specs.declared.effects.Effect.TheVariants.{Put}
use Rattle.object_history.specs.declared.marks.Mark.{Mark}
use Rattle.object_history.specs.History.{floor_of, settle_of}
use Rattle.object_history.specs.Views.{HasPut}
use Rattle.object_retirement.specs.Stood.{has_start}
use Rattle.repository_core.specs.Logs.{marks}
use Rattle.serial_model.specs.Questions.{talked}
use Rattle.world_core.specs.Deeds.{RunLogs, Try, Version, committed, lines_written, marks_at, written}

-- ---- all versions that ever stood

-- these effects, and the Puts of another log whose object and start they don't have
unfoldable pub with_puts : List Effect → List Effect → List Effect
with_puts met [] = met
with_puts met (Put o x v ∷ l) = if has_start o x (marks (with_puts met l)) then with_puts met l else Put o x v ∷ with_puts met l
with_puts met (f ∷ l) = with_puts met l

-- a log with the Puts of its older logs that it lacks: each version that ever stood is there, once
abbrev pub whole_log : List (List Effect) → List Effect → List Effect
whole_log [] log = log
whole_log (old ∷ olds) log = with_puts (whole_log olds log) old

-- a run as its logs stand, with all versions that ever stood; these are its nodes' older logs
abbrev pub whole_run : (NodeId → List (List Effect)) → RunLogs → RunLogs
whole_run olds k = record { repositories = k.repositories; logs = λ n. whole_log (olds n) (k.logs n); tries = k.tries }

-- ---- what stands of them

-- a retirement gave the version up for a later one: the floor is above it, and a committed version of its object stands above it and below the floor
abbrev pub WasGivenUp : List Mark → Version → Type 0
WasGivenUp m v = (e : TimeParts) × (floor_of m ≡ Some e) × (lt v.start e ≡ true) × HasPut (λ y. (settle_of m y.stamp ≡ Some true) × (lt v.start y ≡ true) × (lt y e ≡ true)) v.object m

-- the Wrote lines of an attempt, each with its step
abbrev pub wrote : Try → List Version
wrote try = lines_written try.stamp 1 (talked try.script try.answers).lines

-- each put of the attempt in the logs as they stand is one of its Wrote lines, and each Wrote line has its put there, unless that was given up
pub record PutsStand (k : RunLogs) (try : Try) : Type 0 where
  pub lines : Every (λ v. Has v (wrote try)) (written k try.stamp)
  pub puts : Every (λ v. Has v (written k try.stamp) ⊎ WasGivenUp (marks_at k v.object) v) (wrote try)

-- so it is of each committed attempt
abbrev pub KeepsPuts : RunLogs → Type 0
KeepsPuts k = (try : Try) → Has try k.tries → committed k try.stamp ≡ true → PutsStand k try
