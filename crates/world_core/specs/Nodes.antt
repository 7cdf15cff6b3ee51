-- What nodes keep and how they answer inputs: the rules of repositories and of brokers as one function.
use Rattle.std.specs.Prelude.{ℕ, Bool, true, false, ◌==◌, not, is_none, List, [], reverse}
use Rattle.std.specs.List.{filter}
use Rattle.pseudo_time.specs.declared.nodes.NodeId.{NodeId}
use Rattle.pseudo_time.specs.declared.nodes.NodeKind.{NodeKind}
use Rattle.pseudo_time.specs.declared.nodes.NodeKind.TheVariants.{Repository, Broker}
use Rattle.pseudo_time.specs.StampParts.{StampParts}
use Rattle.value_form.specs.declared.acts.ActSpec.{ActSpec}
use Rattle.effect_form.specs.declared.effects.Effect.{Effect}
use Rattle.message_form.specs.declared.messages.Message.{Message}
use Rattle.message_form.specs.declared.messages.Message.TheVariants as message
use Rattle.message_form.specs.declared.turns.Out.{Out}
use Rattle.serial_model.specs.Questions.{Tree}
use Rattle.repository_core.specs.Logs.{knows}
use Rattle.repository_core.specs.Hands.{Mind as HandMind}
use Rattle.repository_core.specs.Turns as turns
pub use Rattle.repository_core.specs.Logs.{is_commit}
pub use Rattle.pseudo_time.specs.Nodes.{repository, broker}
use Rattle.broker_core.specs.Heard.{Heard}
use Rattle.broker_core.specs.Fits.{resume_fault}
use Rattle.broker_core.specs.Stages.{nothing_heard}
use Rattle.broker_core.specs.Tasks.{tasks}
use Rattle.broker_core.specs.Turns as desks

-- All that a node keeps and that isn't in its log. A repository uses the first, a broker the second.
pub record Mind : Type 0 where
  pub hands : HandMind
  pub heard : Heard

-- of a node that was opened when it was this moment
abbrev pub opened_mind : ℕ → Mind
opened_mind start = record { hands = turns.opened_mind start; heard = nothing_heard }

-- it goes, takes a message, learns a decision, or hears a moment
pub data Input : Type 0 where
  Going : Input
  Taking : NodeId → Message → Input
  Learning : StampParts → Bool → Input
  Hearing : ℕ → Input

-- what a node gives for an input: effects and messages, the first one first
pub record Given : Type 0 where
  pub effects : List Effect
  pub outs : List Out
  pub mind : Mind

abbrev pub nothing_given : Mind → Given
nothing_given mind = record { effects = []; outs = []; mind = mind }

-- ---- repositories

abbrev pub with_hands : Mind → turns.Given → Given
with_hands mind g = record { effects = g.effects; outs = g.outs; mind = record { hands = g.mind; heard = mind.heard } }

-- A repository has nowhere to go.
abbrev pub repository_gives : ℕ → List Effect → Mind → Input → Given
repository_gives r log mind Going = nothing_given mind
repository_gives r log mind (Taking from m) = with_hands mind (turns.gives r log mind.hands (turns.Taking from m))
repository_gives r log mind (Learning s committed) = with_hands mind (turns.gives r log mind.hands (turns.Learning s committed))
repository_gives r log mind (Hearing t) = with_hands mind (turns.gives r log mind.hands (turns.Hearing t))

-- ---- brokers

-- this broker's acts of the plan
abbrev pub acts_of : ℕ → List ActSpec → List ActSpec
acts_of b acts = filter (λ (a : ActSpec). a.broker == b) acts

abbrev pub with_desk : Mind → desks.Desk → Given
with_desk mind d = record { effects = reverse d.added; outs = d.outs; mind = record { hands = mind.hands; heard = d.heard } }

module _ (script : List ℕ → Tree) (run : ℕ) (acts : List ActSpec) (b : ℕ) where
  abbrev pub desk_after : List Effect → Mind → desks.Input → desks.Desk
  desk_after log mind input = desks.desk_turn script b run (tasks (acts_of b acts)) (desks.desk_at (reverse log) mind.heard) input

  -- A broker has nothing to learn.
  abbrev pub broker_gives : List Effect → Mind → Input → Given
  broker_gives log mind Going = with_desk mind (desk_after log mind desks.Go)
  broker_gives log mind (Taking from m) = with_desk mind (desk_after log mind (desks.Take from m))
  broker_gives log mind (Learning s committed) = nothing_given mind
  broker_gives log mind (Hearing t) = with_desk mind (desk_after log mind (desks.Hear t))

  -- the log shows neither a later run nor another plan
  abbrev pub broker_ready : List Effect → Bool
  broker_ready log = is_none (resume_fault script b run (tasks (acts_of b acts)) (reverse log))

-- ---- nodes

abbrev pub kind_gives : (List ℕ → Tree) → ℕ → List ActSpec → NodeKind → ℕ → List Effect → Mind → Input → Given
kind_gives script run acts Repository i log mind input = repository_gives i log mind input
kind_gives script run acts Broker i log mind input = broker_gives script run acts i log mind input

-- What a node gives for an input, over its whole log, oldest effect first. `script` reads the texts of scripts.
unfoldable pub gives : (List ℕ → Tree) → ℕ → List ActSpec → NodeId → List Effect → Mind → Input → Given
gives script run acts n log mind input = kind_gives script run acts n.kind n.number log mind input

abbrev pub kind_ready : (List ℕ → Tree) → ℕ → List ActSpec → NodeKind → ℕ → List Effect → Bool
kind_ready script run acts Repository i log = true
kind_ready script run acts Broker i log = broker_ready script run acts i log

-- the log of a node, oldest effect first, shows neither a later run nor another plan
unfoldable pub is_ready : (List ℕ → Tree) → ℕ → List ActSpec → NodeId → List Effect → Bool
is_ready script run acts n log = kind_ready script run acts n.kind n.number log

-- A message leaves at a gate, unless it is an Ask whose stamp the log knows.
abbrev pub leaves : List Effect → Out → Bool
leaves log out = elim out.message [ message.Ask s ↦ not (knows log s) | _ ↦ true ]
