-- A run of a plan over the logs of its nodes, which stand newest first.
use Rattle.std.specs.Prelude.{◌≡◌, ◌⊎◌, ℕ, List, [], ◌∷◌, ◌++◌, map, reverse}
use Rattle.pseudo_time.specs.declared.nodes.NodeId.{NodeId}
use Rattle.value_form.specs.declared.objects.ObjectId.{ObjectId}
use Rattle.value_form.specs.declared.values.Value.{Value}
use Rattle.effect_form.specs.declared.effects.Effect.{Effect}
use Rattle.message_form.specs.Posts.{Post}
use Rattle.stream_port.specs.declared.fates.Asked.{Asked}
use Rattle.pseudo_time.specs.TimeParts.{TimeParts}
use Rattle.object_history.specs.declared.steps.WriteStep.{WriteStep}
use Rattle.serial_model.specs.Questions.{Tree}
use Rattle.plan_form.specs.declared.plans.Plan.{Plan}
use Rattle.plan_form.specs.PlanTexts.{CanRun}
use Rattle.world_core.specs.declared.entries.Entry.{Entry}
use Rattle.world_core.specs.declared.traces.Trace.{Trace}
use Rattle.world_core.specs.Walks.{Base, World, walk, sent_by}
use Rattle.world_core.specs.Legal.{Legal, base_of}
use Rattle.world_core.specs.Answered.{WasAnswered, WasRefused}
use Rattle.world_core.specs.Pasts.{OpenedWith, alike}
use Rattle.world_facts.specs.Earlier.{ComeFrom, Earlier, TickedBy, replaced, sent_earlier}
use Rattle.world_facts.specs.Earlier.Earlier.{Running, Retiring}
use Rattle.world_facts.specs.Refines.{logs_at}
use Rattle.serial_law.specs.Causes.{Happened}
use Rattle.serial_law.specs.Wholes.{whole_run}
pub use Rattle.world_core.specs.Deeds.{Try, RunLogs, attempt, book_tries, run_of}
unfoldable pub use Rattle.world_core.specs.Deeds.{run_tries}

-- ---- places of legal traces

-- A place of a legal trace of a plan that can run, over logs that runs and retirements left. `logs` are those so far, oldest effect first, and
-- `front` are the trace's entries up to the place. `script` reads the texts of scripts.
pub record Position : Type 0 where
  pub script : List ℕ → Tree
  pub plan : Plan
  pub asked : List Asked
  pub trace : Trace
  pub logs : NodeId → List Effect
  pub front : List Entry
  pub rest : List Entry
  pub here : trace.entries ≡ front ++ rest
  pub whole : CanRun plan
  pub past : ComeFrom (alike script) logs
  pub agrees : OpenedWith trace.opened logs
  pub legal : Legal script plan asked trace

abbrev pub world_at : Position → World
world_at p = walk (base_of p.script p.plan p.trace) p.front

-- a node's durable log there, newest effect first
abbrev pub log_at : Position → NodeId → List Effect
log_at p n = reverse (logs_at p.logs (world_at p) n)

-- its older logs, which retirements replaced
abbrev pub olds_at : Position → NodeId → List (List Effect)
olds_at p n = map reverse (replaced (alike p.script) p.past.0 n)

-- the run as it stands there
abbrev pub run_at : Position → RunLogs
run_at p = run_of p.script p.plan (log_at p)

-- and with all versions that ever stood
abbrev pub whole_at : Position → RunLogs
whole_at p = whole_run (olds_at p) (run_at p)

-- all that was sent before, in the calls of the past and in the trace
abbrev pub sent_before : Position → List Post
sent_before p = sent_earlier (alike p.script) p.past.0 ++ sent_by (world_at p)

-- the moment was ticked before, in a run of the past or in the trace
abbrev pub TickedBefore : Position → ℕ → Type 0
TickedBefore p = TickedBy p.past.0 p.front

-- ---- what repositories took

-- in one of these calls P holds of the run
abbrev pub InSome : (Plan → List ℕ → Tree) → (Base → List Entry → Type 0) → List Earlier → Type 0
InSome read P [] = ⊥
InSome read P (Retiring r at ∷ cs) = InSome read P cs
InSome read P (Running c ∷ cs) = P (base_of (read c.plan) c.plan c.trace) c.trace.entries ⊎ InSome read P cs

-- before, in the trace or in a run of the past, the repository of the object took this write, and answered so
abbrev pub AnsweredBefore : Position → TimeParts → ObjectId → Value → WriteStep → Type 0
AnsweredBefore p x o v step = WasAnswered (base_of p.script p.plan p.trace) p.front x o v step ⊎ InSome (alike p.script) (λ b es. WasAnswered b es x o v step) p.past.0

-- and took this read, and refused it with this end
abbrev pub RefusedBefore : Position → TimeParts → ObjectId → TimeParts → Type 0
RefusedBefore p x o e = WasRefused (base_of p.script p.plan p.trace) p.front x o e ⊎ InSome (alike p.script) (λ b es. WasRefused b es x o e) p.past.0

-- what happened before
abbrev pub happened_before : Position → Happened
happened_before p = record { Ticked = TickedBefore p; Answered = AnsweredBefore p; Refused = RefusedBefore p }
