-- Logs that earlier runs left.
use Rattle.std.specs.Prelude.{◌≡◌, ℕ, Bool, true, false, List, [], ◌∷◌, ◌++◌, take, Option, Some, if◌then◌else◌}
use Rattle.pseudo_time.specs.Lists.{Every, Has}
use Rattle.pseudo_time.specs.declared.nodes.NodeId.{NodeId}
use Rattle.effect_form.specs.declared.effects.Effect.{Effect}
use Rattle.stream_port.specs.declared.fates.Asked.{Asked}
use Rattle.serial_model.specs.Questions.{Tree}
use Rattle.plan_form.specs.declared.plans.Plan.{Plan}
use Rattle.broker_core.specs.Readings.{reading}
use Rattle.world_core.specs.declared.entries.Entry.{Entry}
use Rattle.world_core.specs.declared.entries.Entry.TheVariants.{Down}
use Rattle.pseudo_time.specs.declared.down_causes.DownCause.{DownCause}
use Rattle.world_core.specs.declared.traces.Opened.{Opened}
use Rattle.world_core.specs.declared.traces.Trace.{Trace}
use Rattle.world_core.specs.Walks.{opened_log, Life, is_down, walk}
use Rattle.world_core.specs.Legal.{Legal, base_of, in_plan}

-- a run that was, and how many effects that weren't gated each node was left with
pub record Call : Type 0 where
  pub plan : Plan
  pub asked : List Asked
  pub trace : Trace
  pub kept : NodeId → ℕ

-- How the scripts of each plan are read is a parameter of a past: all plans by one reading, or each by the reading of its own acts.
abbrev pub alike : (List ℕ → Tree) → Plan → List ℕ → Tree
alike script plan = script

abbrev pub own_reading : Plan → List ℕ → Tree
own_reading plan = reading plan.acts

-- a node's life at the end of a run
abbrev pub last_life : (Plan → List ℕ → Tree) → Call → NodeId → Life
last_life read c n = (walk (base_of (read c.plan) c.plan c.trace) c.trace.entries).life n

-- what a run left of a node's log
abbrev pub log_left : (Plan → List ℕ → Tree) → Call → NodeId → List Effect
log_left read c n = (last_life read c n).gated ++ take (c.kept n) (last_life read c n).fresh

-- the logs after these runs, the last run first
abbrev pub logs_after : (Plan → List ℕ → Tree) → List Call → NodeId → List Effect
logs_after read [] n = []
logs_after read (c ∷ cs) n = if in_plan c.plan n then log_left read c n else logs_after read cs n

-- nodes were opened with the logs so far
abbrev pub OpenedWith : List Opened → (NodeId → List Effect) → Type 0
OpenedWith opened logs = (n : NodeId) (log : List Effect) → opened_log opened n ≡ Some log → log ≡ logs n

-- its Down stands, and no entry of another kind
abbrev pub WasNotOpened : List Entry → NodeId → Type 0
WasNotOpened es n = ((cause : DownCause) × Has (Down n cause) es) × Every (λ e. is_down e ≡ true) es

-- a legal run over these logs, in which each node was opened
pub record IsCall (read : Plan → List ℕ → Tree) (logs : NodeId → List Effect) (c : Call) : Type 0 where
  pub agrees : OpenedWith c.trace.opened logs
  pub legal : Legal (read c.plan) c.plan c.asked c.trace
  pub opened : (n : NodeId) → in_plan c.plan n ≡ true → WasNotOpened c.trace.entries n → ⊥

abbrev pub AreCalls : (Plan → List ℕ → Tree) → List Call → Type 0
AreCalls read [] = Unit {0}
AreCalls read (c ∷ cs) = AreCalls read cs × IsCall read (logs_after read cs) c

-- the logs come from empty ones by runs of this program
abbrev pub HasPast : (Plan → List ℕ → Tree) → (NodeId → List Effect) → Type 0
HasPast read logs = (cs : List Call) × AreCalls read cs × ((n : NodeId) → logs n ≡ logs_after read cs n)
