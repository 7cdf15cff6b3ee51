-- Every attempt reads, writes and ends as its script does alone, after the committed deeds before its stamp. The logs have all versions that ever stood.
use Rattle.std.specs.Prelude.{◌≡◌, ℕ, true, false, ◌&&◌, Option, Some}
use Rattle.pseudo_time.specs.Lists.{Has}
use Rattle.pseudo_time.specs.StampParts.{StampParts}
use Rattle.pseudo_time.specs.Order.{stamp_lt}
use Rattle.value_form.specs.declared.endings.Ending.{Ending}
use Rattle.value_form.specs.declared.endings.Ending.TheVariants as ending
use Rattle.value_form.specs.declared.fail_kinds.FailKind.{FailKind}
use Rattle.value_form.specs.declared.objects.ObjectId.{ObjectId}
use Rattle.value_form.specs.declared.values.Value.{Value}
use Rattle.value_form.specs.Objects.{Objects, value_at}
use Rattle.effect_form.specs.declared.outcomes.Outcome.{Outcome}
use Rattle.effect_form.specs.declared.outcomes.Outcome.TheVariants as outcome
use Rattle.object_history.specs.History.{Seen, scan}
use Rattle.object_history.specs.Views.{value_of}
use Rattle.script_meaning.specs.Meaning.{Over}
use Rattle.serial_model.specs.Questions.{Talked, talked, talked_alone, IsFrontOf}
use Rattle.world_core.specs.Deeds.{Try, RunLogs, committed, before, written, lines_written, marks_at}

-- the attempt's transcript is the whole one, and its script alone ends so
pub record IsComplete (t alone : Talked) (e : Ending) : Type 0 where
  pub over : t.stop ≡ Over e
  pub lines : t.lines ≡ alone.lines
  pub ends : alone.stop ≡ Over e

-- an attempt, with its transcript and what its script does alone
pub record IsSerial (k : RunLogs) (try : Try) (t alone : Talked) : Type 0 where
  -- its transcript is a prefix of what its script does alone
  pub front : IsFrontOf t.lines alone.lines
  -- once it is committed, or its script withdrew or failed, it is all of that
  pub finished : committed k try.stamp ≡ true → IsComplete t alone ending.Finished
  pub withdrawn : (l : ℕ) → try.ended ≡ Some (outcome.Withdrawn l) → IsComplete t alone (ending.Withdrawn l)
  pub failed : (l : ℕ) (kind : FailKind) → try.ended ≡ Some (outcome.Failed l kind) → IsComplete t alone (ending.Failed l kind)
  -- an End says whether it is committed
  pub sure : try.ended ≡ Some outcome.Committed → committed k try.stamp ≡ true
  pub other : (e : Outcome) → try.ended ≡ Some e → (e ≡ outcome.Committed → ⊥) → committed k try.stamp ≡ false
  -- the puts of a committed one are its Wrote lines, each with its step
  pub puts : committed k try.stamp ≡ true → written k try.stamp ≡ lines_written try.stamp 1 t.lines

abbrev pub Serial : RunLogs → Type 0
Serial k = (try : Try) → Has try k.tries → IsSerial k try (talked try.script try.answers) (talked_alone try.script (before k try.stamp))

-- ---- maps and the versions behind them

-- the value of the version that was found, or Nothing where none was
abbrev pub HasValue : Option Seen → Value → Type 0
HasValue r v = v ≡ value_of r

-- of each object the map has the committed put with the greatest start below s
abbrev pub HoldsBefore : RunLogs → StampParts → Objects → Type 0
HoldsBefore k s m = (o : ObjectId) → HasValue (scan (λ x. stamp_lt x.stamp s && committed k x.stamp) o (marks_at k o)) (value_at m o)

-- of each object the map has the committed put with the greatest start
abbrev pub HoldsAll : RunLogs → Objects → Type 0
HoldsAll k m = (o : ObjectId) → HasValue (scan (λ x. committed k x.stamp) o (marks_at k o)) (value_at m o)
