pub mod Logs
pub use Rattle.node_turn.specs.Boards
pub use Rattle.node_turn.specs.Clocked
pub use Rattle.node_turn.specs.Cores
pub use Rattle.node_turn.specs.Costs
pub use Rattle.node_turn.specs.Learns
pub use Rattle.node_turn.specs.Lives
pub use Rattle.node_turn.specs.Nodes as TurnNodes
pub use Rattle.node_turn.specs.Sights
pub use Rattle.node_turn.specs.Stories
pub use Rattle.node_turn.specs.Windows
pub use Rattle.node_turn.specs.Wires
pub use Rattle.node_turn.specs.contracts.nodes.Node as NodeContracts
pub use Rattle.node_turn.specs.declared.conditions.Condition
pub use Rattle.node_turn.specs.declared.conditions.Turned
pub use Rattle.node_turn.specs.StoredCore
