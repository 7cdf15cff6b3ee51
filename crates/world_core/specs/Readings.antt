-- Traces of a plan by the plan alone: what its scripts ask and say is what the reading of its acts says. And logs that earlier runs left.
use Rattle.std.specs.Prelude.{◌≡◌, true, List}
use Rattle.pseudo_time.specs.Lists.{Every}
use Rattle.pseudo_time.specs.declared.nodes.NodeId.{NodeId}
use Rattle.effect_form.specs.declared.effects.Effect.{Effect}
use Rattle.stream_port.specs.declared.fates.Asked.{Asked}
use Rattle.plan_form.specs.declared.plans.Plan.{Plan}
use Rattle.plan_form.specs.PlanTexts.{CanRun}
use Rattle.broker_core.specs.Readings.{reading}
use Rattle.world_core.specs.declared.traces.Trace.{Trace}
use Rattle.world_core.specs.Walks.{World, Life, walk}
use Rattle.world_core.specs.Legal.{Legal, base_of, in_plan}
use Rattle.world_core.specs.Pasts.{AreCalls, Call, WasNotOpened, logs_after, own_reading}

-- ---- traces of a plan

abbrev pub IsLegal : Plan → List Asked → Trace → Type 0
IsLegal plan asked t = Legal (reading plan.acts) plan asked t

-- where the trace has come to
abbrev pub world_after : Plan → Trace → World
world_after plan t = walk (base_of (reading plan.acts) plan t) t.entries

abbrev pub life_after : Plan → Trace → NodeId → Life
life_after plan t n = (world_after plan t).life n

-- a node's durable log at the end, and its open effects, oldest first
abbrev pub gated_log : Plan → Trace → NodeId → List Effect
gated_log plan t n = (life_after plan t n).gated

abbrev pub open_effects : Plan → Trace → NodeId → List Effect
open_effects plan t n = (life_after plan t n).fresh

-- each node of the plan was opened
abbrev pub AllOpened : Plan → Trace → Type 0
AllOpened plan t = (n : NodeId) → in_plan plan n ≡ true → WasNotOpened t.entries n → ⊥

-- ---- logs that earlier runs left

-- these are runs of plans that can run, each over what those before it left
abbrev pub WereRuns : List Call → Type 0
WereRuns cs = AreCalls own_reading cs × Every (λ (c : Call). CanRun c.plan) cs

-- the logs come from empty ones by runs of this program
abbrev pub WereLeft : (NodeId → List Effect) → Type 0
WereLeft logs = (cs : List Call) × WereRuns cs × ((n : NodeId) → logs n ≡ logs_after own_reading cs n)
