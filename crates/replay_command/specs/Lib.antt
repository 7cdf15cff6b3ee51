pub mod Counts
pub mod Nodes
pub mod Replayed
pub mod Texts
pub mod Verdicts
