-- What was sent in a run and in the calls before it, and what the logs at its end say of that. Logs stand newest first.
use Rattle.std.specs.Prelude.{ℕ, map, reverse, List, ◌∷◌, ◌++◌, ◌≡◌, if◌then◌else◌}
use Rattle.pseudo_time.specs.Lists.{Has}
use Rattle.pseudo_time.specs.Nodes.{broker, repository}
use Rattle.pseudo_time.specs.TimeParts.{TimeParts}
use Rattle.pseudo_time.specs.declared.nodes.NodeId.{NodeId}
use Rattle.value_form.specs.declared.values.Value.{Value}
use Rattle.effect_form.specs.declared.effects.Effect.{Effect}
use Rattle.effect_form.specs.declared.effects.Effect.TheVariants as effect
use Rattle.effect_form.specs.declared.outcomes.Outcome.TheVariants as outcome
use Rattle.message_form.specs.declared.messages.Message.TheVariants as message
use Rattle.message_form.specs.Posts.{Post}
use Rattle.plan_form.specs.declared.plans.Plan.{Plan}
use Rattle.broker_core.specs.Book.{book}
use Rattle.broker_laws.specs.Fits.{MayTry}
use Rattle.broker_core.specs.Readings.{reading}
use Rattle.world_core.specs.declared.traces.Trace.{Trace}
use Rattle.world_core.specs.Legal.{base_of, in_plan}
use Rattle.world_core.specs.Pasts.{OpenedWith, own_reading}
use Rattle.world_core.specs.Readings.{gated_log}
use Rattle.world_core.specs.Walks.{sent_by, walk}
use Rattle.serial_law.specs.Causes.{IsSpent}
use Rattle.world_facts.specs.Acknowledged.{Keeps, SeesAbove}
use Rattle.world_facts.specs.Earlier.{Earlier, WereLeftOrRetired, replaced, sent_earlier}

-- all messages of these calls, the first one first (the last call stands first), and those of this run behind them
abbrev pub all_sent : List Earlier → Plan → Trace → List Post
all_sent cs plan t = sent_earlier own_reading cs ++ sent_by (walk (base_of (reading plan.acts) plan t) t.entries)

-- a node's durable log at the end of the run; that of a node outside the plan is as it was
abbrev pub log_after : (NodeId → List Effect) → Plan → Trace → NodeId → List Effect
log_after logs plan t n = reverse (if in_plan plan n then gated_log plan t n else logs n)

-- its logs in retired volumes, the last one first
abbrev pub retired_logs : List Earlier → NodeId → List (List Effect)
retired_logs cs n = map reverse (replaced own_reading cs n)

-- Each sender's log has what it said: a version that was stored, a decision, and of a read what it saw; or a retirement gave up the
-- version, or raised the floor above the read, and then a retired volume has it. What a read that isn't below the floor was answered,
-- a read at its time would see there still, of no attempt that was aborted, unless the log knows the reader's as aborted.
pub record Agree (ever : List Post) (log : NodeId → List Effect) (olds : NodeId → List (List Effect)) : Type 0 where
  pub acknowledged : (q : Post) → Has q ever → Keeps ever q.from (log q.from) (olds q.from) q.message
  pub seen : (r : ℕ) (to : NodeId) (t : TimeParts) (v : Value) → Has (record { from = repository r; to = to; message = message.Value t v }) ever →
      SeesAbove ever (repository r) (log (repository r)) t v

-- an act is spent only where a new attempt might begin, and no clock is left for it
abbrev pub AreSpent : (NodeId → List Effect) → Type 0
AreSpent log = (b i c : ℕ) (late early : List Effect) → log (broker b) ≡ late ++ (effect.End i (outcome.Spent c) ∷ early) → MayTry i (book early).acts (IsSpent (book early) c)

-- Over logs that earlier runs left, and retirements, the logs at the end agree with whatever was sent, in this run or in a call before
-- it: every version, read and decision that was acknowledged.
abbrev pub KeepsAnswers : Plan → Trace → Type 0
KeepsAnswers plan t = (logs : NodeId → List Effect) (left : WereLeftOrRetired logs) → OpenedWith t.opened logs → Agree (all_sent left.0 plan t) (log_after logs plan t) (retired_logs left.0)

-- and each act that is spent there is so rightly
abbrev pub SpendsRightly : Plan → Trace → Type 0
SpendsRightly plan t = (logs : NodeId → List Effect) → WereLeftOrRetired logs → OpenedWith t.opened logs → AreSpent (log_after logs plan t)
