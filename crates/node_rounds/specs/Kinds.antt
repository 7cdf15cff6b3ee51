-- A node of either kind.
use Rattle.std.specs.Prelude.{◌≡◌, true, false}
use Rattle.pseudo_time.specs.Nodes.{is_broker}
use Rattle.broker_node.specs.TurnNodes.{NodeParts}
use Rattle.node_rounds.specs.declared.kinds.AnyNode.{AnyNode}
use Rattle.node_rounds.specs.declared.kinds.AnyNode.TheVariants.{Repository, Broker}

module _ {M : Type 0} where
  abbrev pub parts_of : AnyNode (NodeParts M) (NodeParts M) → NodeParts M
  parts_of (Repository p) = p
  parts_of (Broker p) = p

  -- its name is one of its kind
  abbrev pub IsOfKind : AnyNode (NodeParts M) (NodeParts M) → Type 0
  IsOfKind (Repository p) = is_broker p.node.kind ≡ false
  IsOfKind (Broker p) = is_broker p.node.kind ≡ true
