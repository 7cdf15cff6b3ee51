-- The parts of a flight as the code keeps them.
use Rattle.std.specs.Prelude.{ℕ, List, [], Option}
use Rattle.std.specs.Option.{unwrap_or}
use Rattle.std.specs.Ordering.{nat_cmp}
use Rattle.std.specs.Map.{lookup}
use Rattle.std.specs.BTreeMap.{is_at}
use Rattle.pseudo_time.specs.declared.nodes.NodeId.{NodeId}
use Rattle.message_core.specs.declared.letters.Letter.{Letter}
use Rattle.message_core.specs.declared.letters.HeldCopy.{HeldCopy}
use Rattle.pseudo_time.specs.Nodes.{same_node}
use Rattle.message_core.specs.Flights.{State}
use Rattle.message_core.specs.Queues.{queues_seen, held_seen}
use Rattle.std.specs.Global.{Vec}
use Rattle.std.specs.declared.collections.VecDeque.{VecDeque}

pub record FlightParts : Type 0 where
  pub letters : List Letter
  pub ticks : ℕ
  -- the queue of each node that is up
  pub queues : List (NodeId × List ℕ)
  -- the held copies by the tick that they wait for
  pub held : List (ℕ × List HeldCopy)

abbrev pub queue_at : List (NodeId × List ℕ) → NodeId → Option (List ℕ)
queue_at queues n = lookup (same_node n) queues

abbrev pub held_at : List (ℕ × List HeldCopy) → ℕ → List HeldCopy
held_at held d = unwrap_or (lookup (is_at (nat_cmp d)) held) []

-- what the parts hold
abbrev pub state_of : FlightParts → State
state_of p = record { letters = p.letters; ticks = p.ticks; queues = queue_at p.queues; held = held_at p.held }

-- the parts, from the code's fields
abbrev pub parts_of : {A : Type 0} → List Letter → ℕ → List (NodeId × VecDeque ℕ A) → List (ℕ × Vec HeldCopy) → FlightParts
parts_of letters ticks queues held = record { letters = letters; ticks = ticks; queues = queues_seen queues; held = held_seen held }
