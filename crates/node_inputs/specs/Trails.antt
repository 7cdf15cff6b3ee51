-- What was done with a pass: what was sent and learned, and what the board was tested for.
use Rattle.std.specs.Prelude.{◌≡◌, ℕ, Bool, false, List, [], ◌∷◌, ◌++◌, if◌then◌else◌}
use Rattle.pseudo_time.specs.declared.nodes.NodeId.{NodeId}
use Rattle.pseudo_time.specs.Nodes.{same_node}
use Rattle.message_form.specs.declared.turns.Out.{Out}
use Rattle.world_core.specs.declared.entries.Entry.{Entry}
use Rattle.world_core.specs.declared.entries.Entry.TheVariants.{Learn, Gate}
use Rattle.world_core.specs.Walks.{Base, World, step}
use Rattle.wire_core.specs.Changes.{owed}
use Rattle.wire_lock.specs.Decisions.{Decided}
use Rattle.wire_lock.specs.Sights.{Sight, base_at, world_at}
use Rattle.node_inputs.specs.Costs.{costs}

-- ---- entries

-- the node's own gate
abbrev pub gates : NodeId → Entry → Bool
gates n e = elim e [ Gate node ↦ same_node node n | _ ↦ false ]

-- what the node's gates among these entries send
unfoldable pub sent_from : Base → NodeId → World → List Entry → List Out
sent_from b n w [] = []
sent_from b n w (e ∷ es) = (if gates n e then owed w n else []) ++ sent_from b n (step b w e) es

abbrev pub learned_by : Entry → List Decided
learned_by e = elim e [ Learn node stamp committed ↦ (stamp, committed) ∷ [] | _ ↦ [] ]

-- the decisions that were learned, in order
abbrev pub learned_in : List Entry → List Decided
learned_in [] = []
learned_in (e ∷ es) = learned_by e ++ learned_in es

-- ---- what was done

-- With the node's pass these messages were sent, these decisions learned and these words tested, each in order; and its entries cost
-- so many faults.
pub record Trail (n : NodeId) (old new : Sight) (sent : List Out) (learned : List Decided) (tested : List (ℕ × ℕ)) (cost : ℕ) : Type 0 where
  pub base : new.base ≡ old.base
  pub names : new.owner ≡ old.owner
  pub rest : List Entry
  pub story : new.story ≡ old.story ++ rest
  pub sends : sent_from (base_at old) n (world_at old) rest ≡ sent
  pub own : List Entry
  pub adds : new.own ≡ old.own ++ own
  pub learns : learned_in own ≡ learned
  pub paid : costs own ≡ cost
  pub tests : new.tests ≡ old.tests ++ tested
