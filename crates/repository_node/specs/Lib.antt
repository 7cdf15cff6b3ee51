pub mod Doubts
pub mod KeptCores
pub mod NotedLogs
pub use Rattle.node_turn.specs.Settles
