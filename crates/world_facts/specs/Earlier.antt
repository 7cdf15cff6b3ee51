-- Logs that earlier runs left, and retirements.
use Rattle.std.specs.Prelude.{◌≡◌, ◌⊎◌, ℕ, List, [], ◌∷◌, ◌++◌, reverse, if◌then◌else◌}
use Rattle.pseudo_time.specs.Lists.{Has}
use Rattle.pseudo_time.specs.Nodes.{repository, same_node}
use Rattle.pseudo_time.specs.TimeParts.{TimeParts}
use Rattle.pseudo_time.specs.declared.nodes.NodeId.{NodeId}
use Rattle.effect_form.specs.declared.effects.Effect.{Effect}
use Rattle.message_form.specs.Posts.{Post}
use Rattle.serial_model.specs.Questions.{Tree}
use Rattle.plan_form.specs.declared.plans.Plan.{Plan}
use Rattle.plan_form.specs.PlanTexts.{CanRun}
use Rattle.object_retirement.specs.Forward.{MayRetire, forward}
use Rattle.world_core.specs.declared.entries.Entry.{Entry}
use Rattle.world_core.specs.declared.entries.Entry.TheVariants.{Tick}
use Rattle.world_core.specs.Legal.{base_of, in_plan}
use Rattle.world_core.specs.Pasts.{Call, IsCall, log_left, own_reading}
use Rattle.world_core.specs.Walks.{sent_by, walk}

-- an earlier call: a run, or a retirement of this repository's log at a mark
pub data Earlier : Type 0 where
  Running : Call → Earlier
  Retiring : ℕ → TimeParts → Earlier

-- the logs after these calls, oldest effect first; the last call stands first
abbrev pub logs_left : (Plan → List ℕ → Tree) → List Earlier → NodeId → List Effect
logs_left read [] n = []
logs_left read (Running c ∷ cs) n = if in_plan c.plan n then log_left read c n else logs_left read cs n
logs_left read (Retiring r at ∷ cs) n = if same_node (repository r) n then forward (logs_left read cs n) at else logs_left read cs n

-- a legal run over these logs, in which each node was opened, or a retirement that the repository's log allows
abbrev pub IsEarlier : (Plan → List ℕ → Tree) → (NodeId → List Effect) → Earlier → Type 0
IsEarlier read logs (Running c) = IsCall read logs c
IsEarlier read logs (Retiring r at) = MayRetire (reverse (logs (repository r))) at

abbrev pub AreEarlier : (Plan → List ℕ → Tree) → List Earlier → Type 0
AreEarlier read [] = Unit {0}
AreEarlier read (c ∷ cs) = AreEarlier read cs × IsEarlier read (logs_left read cs) c

-- the logs come from empty ones by runs of this program and retirements
abbrev pub ComeFrom : (Plan → List ℕ → Tree) → (NodeId → List Effect) → Type 0
ComeFrom read logs = (cs : List Earlier) × AreEarlier read cs × ((n : NodeId) → logs n ≡ logs_left read cs n)

-- all these calls are runs
abbrev pub AreRuns : List Earlier → Type 0
AreRuns [] = Unit {0}
AreRuns (Running c ∷ cs) = AreRuns cs
AreRuns (Retiring r at ∷ cs) = ⊥

-- the runs among these calls are of plans that can run
abbrev pub AreOfLanguage : List Earlier → Type 0
AreOfLanguage [] = Unit {0}
AreOfLanguage (Running c ∷ cs) = CanRun c.plan × AreOfLanguage cs
AreOfLanguage (Retiring r at ∷ cs) = AreOfLanguage cs

-- the logs come from empty ones by such runs, each plan read by its own acts, and by retirements
abbrev pub WereLeftOrRetired : (NodeId → List Effect) → Type 0
WereLeftOrRetired logs = (cs : List Earlier) × (AreEarlier own_reading cs × AreOfLanguage cs) × ((n : NodeId) → logs n ≡ logs_left own_reading cs n)

-- a node's older logs: those before and after each of these calls, the last one first
abbrev pub older : (Plan → List ℕ → Tree) → List Earlier → NodeId → List (List Effect)
older read [] n = [] ∷ []
older read (c ∷ cs) n = logs_left read (c ∷ cs) n ∷ older read cs n

-- Those among them that a retirement replaced, which stand in retired volumes. Between retirements a log only grows, so each of the
-- others is the beginning of one of these, or of the log after all calls.
abbrev pub replaced : (Plan → List ℕ → Tree) → List Earlier → NodeId → List (List Effect)
replaced read [] n = []
replaced read (Running c ∷ cs) n = replaced read cs n
replaced read (Retiring r at ∷ cs) n = if same_node (repository r) n then logs_left read cs n ∷ replaced read cs n else replaced read cs n

-- all messages of these calls, the first one first; a retirement sends nothing
abbrev pub sent_earlier : (Plan → List ℕ → Tree) → List Earlier → List Post
sent_earlier read [] = []
sent_earlier read (Running c ∷ cs) = sent_earlier read cs ++ sent_by (walk (base_of (read c.plan) c.plan c.trace) c.trace.entries)
sent_earlier read (Retiring r at ∷ cs) = sent_earlier read cs

-- a Tick with this moment stands in one of them
abbrev pub TickedEarlier : List Earlier → ℕ → Type 0
TickedEarlier [] t = ⊥
TickedEarlier (Running c ∷ cs) t = Has (Tick t) c.trace.entries ⊎ TickedEarlier cs t
TickedEarlier (Retiring r at ∷ cs) t = TickedEarlier cs t

-- it stands in one of them, or in these entries
abbrev pub TickedBy : List Earlier → List Entry → ℕ → Type 0
TickedBy cs es t = Has (Tick t) es ⊎ TickedEarlier cs t
