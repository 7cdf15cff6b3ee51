-- Why an End that a trace added stands there: over any logs, also over logs that no calls could have left. Logs stand newest first.
use Rattle.std.specs.Prelude.{◌≡◌, ◌⊎◌, ℕ, true, false, reverse, List, ◌++◌, Some}
use Rattle.pseudo_time.specs.Lists.{Has}
use Rattle.pseudo_time.specs.Order.{lt}
use Rattle.pseudo_time.specs.TimeParts.{TimeParts}
use Rattle.pseudo_time.specs.declared.nodes.NodeId.{NodeId}
use Rattle.value_form.specs.declared.objects.ObjectId.{ObjectId}
use Rattle.value_form.specs.declared.values.Value.{Value}
use Rattle.effect_form.specs.declared.effects.Effect.{Effect}
use Rattle.effect_form.specs.declared.effects.Effect.TheVariants as effect
use Rattle.effect_form.specs.declared.outcomes.Outcome.{Outcome}
use Rattle.effect_form.specs.declared.outcomes.Outcome.TheVariants as outcome
use Rattle.stream_port.specs.declared.fates.Asked.{Asked}
use Rattle.object_history.specs.declared.steps.WriteStep.{WriteStep}
use Rattle.object_history.specs.declared.steps.WriteStep.TheVariants as write
use Rattle.serial_model.specs.Questions.{Tree}
use Rattle.plan_form.specs.declared.plans.Plan.{Plan}
use Rattle.broker_core.specs.Book.{Book, Try, open_try, time_of}
use Rattle.pseudo_time.specs.Nodes.{repository}
use Rattle.broker_core.specs.Counted.{counted}
use Rattle.broker_laws.specs.Fits.{FitsBook, IsReading, IsWriting}
use Rattle.world_core.specs.declared.entries.Entry.{Entry}
use Rattle.world_core.specs.declared.traces.Trace.{Trace}
use Rattle.world_core.specs.Answered.{WasAnswered, WasRefused}
use Rattle.world_core.specs.Walks.{walk}
use Rattle.world_core.specs.Legal.{Legal, base_of}
use Rattle.world_facts.specs.AnyRules.{tasks_of, log_opened}
use Rattle.world_facts.specs.Refines.{logs_at}

-- A place of a legal trace over any logs; `front` are the trace's entries up to the place. `script` reads the texts of scripts.
pub record AnyPlace : Type 0 where
  pub script : List ℕ → Tree
  pub plan : Plan
  pub asked : List Asked
  pub trace : Trace
  pub front : List Entry
  pub rest : List Entry
  pub here : trace.entries ≡ front ++ rest
  pub legal : Legal script plan asked trace

-- a node's durable log there
abbrev pub any_log : AnyPlace → NodeId → List Effect
any_log p n = reverse (logs_at (log_opened p.trace) (walk (base_of p.script p.plan p.trace) p.front) n)

-- what counts of a log of broker b
abbrev pub counted_by : AnyPlace → ℕ → List Effect → Book
counted_by p b log = counted p.script b (base_of p.script p.plan p.trace).run (tasks_of p.script (base_of p.script p.plan p.trace).run (base_of p.script p.plan p.trace).acts b) log

-- the repository of the object took this write in the trace, and answered so
abbrev pub AnsweredThere : AnyPlace → TimeParts → ObjectId → Value → WriteStep → Type 0
AnsweredThere p = WasAnswered (base_of p.script p.plan p.trace) p.front

-- it took this read there, and refused it with this end
abbrev pub RefusedThere : AnyPlace → TimeParts → ObjectId → TimeParts → Type 0
RefusedThere p = WasRefused (base_of p.script p.plan p.trace) p.front

-- the open attempt of the log below stands at a read of the object, and has P
abbrev pub ReadThere : AnyPlace → Book → (Try → Type 0) → ObjectId → Type 0
ReadThere p b P o = (t : Try) × (open_try b ≡ Some t) × IsReading p.script t o × P t

-- the open attempt of the log below stands at a write, and has P
abbrev pub WroteThere : AnyPlace → Book → (Try → ObjectId → Value → Type 0) → ObjectId → Type 0
WroteThere p b P o = (t : Try) × (open_try b ≡ Some t) × ((v : Value) × IsWriting p.script t o v × P t o v)

-- An attempt withdraws or fails where its script, with the answers below, comes to that; an act is spent where no clock is left. A write was refused because of what stands in the log of the object's
-- repository: a Stretch or a Mark above it, or a version not below it; and a read, because of a Mark above it; and so its history answered, once.
abbrev pub EndCause : AnyPlace → ℕ → List Effect → ℕ → Outcome → Type 0
EndCause p b below i (outcome.Withdrawn l) = FitsBook p.script b (counted_by p b below) (effect.End i (outcome.Withdrawn l))
EndCause p b below i (outcome.Failed l k) = FitsBook p.script b (counted_by p b below) (effect.End i (outcome.Failed l k))
EndCause p b below i (outcome.Spent c) = FitsBook p.script b (counted_by p b below) (effect.End i (outcome.Spent c))
EndCause p b below i (outcome.LaterRead o e) =
    WroteThere p (counted_by p b below)
    (λ t o v. (lt (time_of t) e ≡ true) × (Has (effect.Stretch o e) (any_log p (repository o.repository)) ⊎ Has (effect.Mark e) (any_log p (repository o.repository))) × AnsweredThere p (time_of t) o v (write.LaterRead e)) o
    ⊎ ReadThere p (counted_by p b below) (λ t. (lt (time_of t) e ≡ true) × Has (effect.Mark e) (any_log p (repository o.repository)) × RefusedThere p (time_of t) o e) o
EndCause p b below i (outcome.LaterVersion o x) =
    WroteThere p (counted_by p b below)
    (λ t o v. (lt x (time_of t) ≡ false) × ((w : Value) × Has (effect.Put o x w) (any_log p (repository o.repository))) × AnsweredThere p (time_of t) o v (write.LaterVersion x)) o
EndCause p b below i outcome.Committed = Unit {0}
EndCause p b below i (outcome.Expired d m) = Unit {0}
