pub mod Cores
pub mod Letters
pub mod ReplayedNodes
pub mod Replays
pub use Rattle.world_core.specs.Walks
