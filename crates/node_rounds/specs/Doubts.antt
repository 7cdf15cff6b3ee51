-- What nodes of either kind leave in doubt, and how they decided.
use Rattle.std.specs.Prelude.{Bool, List, [], Option, None, if◌then◌else◌}
use Rattle.pseudo_time.specs.Nodes.{is_broker}
use Rattle.pseudo_time.specs.StampParts.{StampParts}
use Rattle.broker_node.specs.Sights.{life_at}
use Rattle.broker_node.specs.TurnNodes.{NodeParts, sight}
pub use Rattle.repository_node.specs.Doubts.{HasDecided, decided_at, doubts, given, is_plain}

module _ {M : Type 0} where
  -- the stamps that a node's durable log leaves in doubt; a broker has none
  abbrev pub doubts_of : NodeParts M → List StampParts
  doubts_of n = if is_broker n.node.kind then [] else doubts n.node.number (life_at (sight n) n.node).gated

  -- how a node, as the home, decided the stamp; a broker decided nothing
  abbrev pub decision_of : NodeParts M → StampParts → Option Bool
  decision_of n s = if is_broker n.node.kind then None else decided_at n.node.number (life_at (sight n) n.node).gated s
