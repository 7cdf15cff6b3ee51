-- A node between its turns, and what a turn does.
use Rattle.std.specs.Prelude.{◌≡◌, ℕ, Bool, true, false, List, [], ◌∷◌, ◌++◌, Result, Ok, Err, IsTrue, IfOk, OnOk}
use Rattle.node_inputs.specs.NodeId.{NodeId}
use Rattle.node_inputs.specs.NodeNames.{is_broker}
use Rattle.node_inputs.specs.DownCause.{DownCause}
use Rattle.node_inputs.specs.Image.{Image}
use Rattle.node_inputs.specs.Medium.{Ghosts as Media}
use Rattle.node_inputs.specs.Seat.{Seat}
use Rattle.node_inputs.specs.View.{View}
use Rattle.node_inputs.specs.Words.{knows}
use Rattle.node_inputs.specs.Story.{longer}
use Rattle.node_inputs.specs.Entry.{Entry}
use Rattle.node_inputs.specs.Entry.TheVariants.{Down}
use Rattle.node_inputs.specs.Wires.{WireParts}
use Rattle.node_inputs.specs.Sights.{Sight, IsOf, Looked, life_at, flags_at}
use Rattle.node_turn.specs.declared.conditions.Condition.{Condition}
use Rattle.node_turn.specs.declared.conditions.Condition.TheVariants as condition
use Rattle.node_turn.specs.declared.conditions.Turned.{Turned}
use Rattle.node_turn.specs.declared.conditions.Turned.TheVariants.{Worked, Quiet, Stopped}
pub use Rattle.node_inputs.specs.Entries.{Adds, Grew, IsQuiet}
use Rattle.node_inputs.specs.Lives.{IsKept, IsCause}
use Rattle.node_inputs.specs.Cores.{IsIntact}
use Rattle.node_inputs.specs.Costs.{costs, PaysFor}
use Rattle.node_turn.specs.Seeks.{HasTested}
use Rattle.node_turn.specs.Windows.{PassesOn}

-- a node, as contracts see it
pub record NodeParts (M : Type 0) : Type 0 where
  pub node : NodeId
  pub condition : Condition
  pub pass : Seat WireParts (View WireParts Entry)
  pub medium : M

-- what the node's pass has seen
abbrev pub sight : {M : Type 0} → NodeParts M → Sight
sight p = knows p.pass

-- a node that was just opened
abbrev pub new_node : {M : Type 0} → NodeId → Seat WireParts (View WireParts Entry) → M → NodeParts M
new_node n pass medium = record { node = n; condition = condition.AtWork; pass = pass; medium = medium }

-- the condition that a turn's answer tells
abbrev pub IsCondition : {E : Type 0} → Result Turned E → Condition → Type 0
IsCondition (Ok Worked) c = c ≡ condition.AtWork
IsCondition (Ok Quiet) c = c ≡ condition.AtWork
IsCondition (Ok Stopped) c = (cause : DownCause) × (c ≡ condition.Down cause)
IsCondition (Err e) c = c ≡ condition.Wanting

-- the answer of a turn that left the node up says whether anything was due
abbrev pub Answers : Bool → Turned → Type 0
Answers quiet Worked = quiet ≡ false
Answers quiet Quiet = quiet ≡ true
Answers quiet Stopped = Unit {0}

-- What a turn that answers this does: Worked adds entries, and leaves the node up; Quiet adds none; Stopped leaves it down.
abbrev pub Does : Turned → NodeId → Sight → Sight → Type 0
Does Worked n old new = Grew old.own new.own × ((flags_at new n).up ≡ true)
Does Quiet n old new = IsQuiet n old new × ((flags_at new n).up ≡ true)
Does Stopped n old new = (flags_at new n).up ≡ false

-- Where no entry costs a fault, the pages are there, none that was blank is spoiled, and no other is written.
abbrev pub StaysWhole : ℕ → ℕ → Image → Image → Type 0
StaysWhole cost new_cost old new = new_cost ≡ cost → IsIntact old new

-- A turn, with its answer: what it did, what it cost in faults, what the board was tested for, and that a crash at any moment of it left
-- the log of the life that the node had then.
pub record TurnsTo {M E : Type 0} (w : Media M) (old new : NodeParts M) (result : Result Turned E) : Type 0 where
  pub node : new.node ≡ old.node
  pub answers : IsCondition result new.condition
  pub does : IfOk result (λ t. Does t old.node (sight old) (sight new))
  pub adds : Adds (sight old).own (sight new).own
  pub paid : PaysFor (costs (sight old).own) (w.faults old.medium) (costs (sight new).own) (w.faults new.medium)
  pub whole : IsTrue w.tells → OnOk result (StaysWhole (costs (sight old).own) (costs (sight new).own) (w.reads old.medium) (w.reads new.medium))
  pub tested : IsTrue w.tells → is_broker old.node.kind ≡ false → HasTested old.node (sight old) (sight new)
  pub passes : IsTrue w.tells → OnOk result (PassesOn old.node (sight old) (sight new) (w.stages old.medium) (w.stages new.medium))

-- A meeting with a pass that had seen this: the node has then seen the longer of the two stories, and all else of it is as before.
pub record MeetsWith {M : Type 0} (other : Sight) (old new : NodeParts M) : Type 0 where
  pub node : new.node ≡ old.node
  pub condition : new.condition ≡ old.condition
  pub medium : new.medium ≡ old.medium
  pub looked : Looked (sight old) (sight new)
  pub longest : (sight new).story ≡ longer (sight old).story other.story

module _ {M : Type 0} (w : Media M) where
  -- what a node's condition says of its entries
  abbrev pub Stands : Condition → NodeParts M → Type 0
  Stands condition.AtWork p = ((flags_at (sight p) p.node).up ≡ true) × (IsTrue w.tells → (life_at (sight p) p.node).fresh ≡ [])
  Stands (condition.Down cause) p = ((flags_at (sight p) p.node).up ≡ false) × ((flags_at (sight p) p.node).due ≡ true) × ((before : List Entry) × ((sight p).own ≡ before ++ Down p.node cause ∷ [])) × IsCause w cause p.medium (life_at (sight p) p.node)
  Stands condition.Wanting p = Unit {0}

  -- What a node is at rest: a crash now leaves its durable log with a prefix of its new effects, of which there are none while it is up; and
  -- where it is down, it went down in a turn, and its last entry says so, and why.
  pub record IsAtRest (p : NodeParts M) : Type 0 where
    pub own : IsOf p.node (sight p)
    pub kept : IsTrue w.tells → (c : Image) → w.may_leave p.medium c → IsKept (life_at (sight p) p.node) c
    pub stands : Stands p.condition p
