-- A core, as contracts see it beside its life.
use Rattle.std.specs.Prelude.{Bool}
use Rattle.pseudo_time.specs.declared.nodes.NodeId.{NodeId}

pub record CoreParts (M : Type 0) : Type 0 where
  pub node : NodeId
  -- it can be given inputs: none of its calls has failed since it was opened
  pub able : Bool
  pub medium : M
