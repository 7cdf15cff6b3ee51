-- What a crash of all media at a place of a run may leave of the logs.
use Rattle.std.specs.Prelude.{◌≡◌, ◌≤◌, ℕ, true, false, List, ◌++◌, length, take}
use Rattle.pseudo_time.specs.declared.nodes.NodeId.{NodeId}
use Rattle.effect_form.specs.declared.effects.Effect.{Effect}
use Rattle.serial_model.specs.Questions.{Tree}
use Rattle.plan_form.specs.declared.plans.Plan.{Plan}
use Rattle.broker_core.specs.Readings.{reading}
use Rattle.world_core.specs.declared.entries.Entry.{Entry}
use Rattle.world_core.specs.declared.traces.Trace.{Trace}
use Rattle.world_core.specs.Walks.{Life, walk}
use Rattle.world_core.specs.Legal.{base_of, in_plan}
use Rattle.world_core.specs.Pasts.{OpenedWith}
use Rattle.world_facts.specs.Earlier.{WereLeftOrRetired}

-- a node's life where these entries lead
abbrev pub life_by : (List ℕ → Tree) → Plan → Trace → List Entry → NodeId → Life
life_by script plan t front n = (walk (base_of script plan t) front).life n

abbrev pub life_there : Plan → Trace → List Entry → NodeId → Life
life_there plan t front n = life_by (reading plan.acts) plan t front n

-- the log is the life's durable log with a prefix of its open effects
pub record IsLogOf (l : Life) (log : List Effect) : Type 0 where
  pub kept : ℕ
  pub few : kept ≤ length l.fresh
  pub is : log ≡ l.gated ++ take kept l.fresh

-- Each node of the plan has its durable log of this place with a prefix of its open effects, and other nodes have what they had.
pub record LeftBy (script : List ℕ → Tree) (plan : Plan) (t : Trace) (front : List Entry) (logs after : NodeId → List Effect) : Type 0 where
  pub own : (n : NodeId) → in_plan plan n ≡ true → IsLogOf (life_by script plan t front n) (after n)
  pub others : (n : NodeId) → in_plan plan n ≡ false → after n ≡ logs n

abbrev pub LeftAt : Plan → Trace → List Entry → (logs after : NodeId → List Effect) → Type 0
LeftAt plan t front logs after = LeftBy (reading plan.acts) plan t front logs after

-- Where the logs before the run were such as runs and retirements left, so are those that are left at each place of its trace.
abbrev pub PlacesHavePasts : Plan → Trace → Type 0
PlacesHavePasts plan t = (front rest : List Entry) (logs after : NodeId → List Effect) → t.entries ≡ front ++ rest → WereLeftOrRetired logs → OpenedWith t.opened logs → LeftAt plan t front logs after → WereLeftOrRetired after
