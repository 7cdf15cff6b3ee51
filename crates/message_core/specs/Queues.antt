-- The queues and the held copies in the code's maps.
use Rattle.std.specs.Prelude.{◌≡◌, ℕ, ◌++◌, List, [], map, Option}
use Rattle.std.specs.Option.{option_map, unwrap_or}
use Rattle.std.specs.Ordering.{nat_cmp}
use Rattle.std.specs.Map.{lookup}
use Rattle.std.specs.BTreeMap.{is_at}
use Rattle.std.specs.Global.{Vec}
use Rattle.std.specs.declared.collections.VecDeque.{VecDeque}
use Rattle.pseudo_time.specs.declared.nodes.NodeId.{NodeId}
use Rattle.message_core.specs.declared.letters.HeldCopy.{HeldCopy}
use Rattle.pseudo_time.specs.Nodes.{same_node}
use Rattle.message_core.specs.Flights.{going_to}

abbrev pub queue_in : {A : Type 0} → List (NodeId × VecDeque ℕ A) → NodeId → Option (List ℕ)
queue_in entries n = option_map (λ queue. queue.items) (lookup (same_node n) entries)

abbrev pub held_in : List (ℕ × Vec HeldCopy) → ℕ → List HeldCopy
held_in entries d = unwrap_or (option_map (λ copies. copies.items) (lookup (is_at (nat_cmp d)) entries)) []

-- these copies went to the ends of their queues
abbrev pub Grew : List HeldCopy → (NodeId → Option (List ℕ)) → (NodeId → Option (List ℕ)) → Type 0
Grew copies before after = (n : NodeId) → after n ≡ option_map (λ queue. queue ++ going_to n copies) (before n)

-- the maps, as lists
abbrev pub queues_seen : {A : Type 0} → List (NodeId × VecDeque ℕ A) → List (NodeId × List ℕ)
queues_seen entries = map (λ e. (e.0, e.1.items)) entries

abbrev pub held_seen : List (ℕ × Vec HeldCopy) → List (ℕ × List HeldCopy)
held_seen entries = map (λ e. (e.0, e.1.items)) entries
