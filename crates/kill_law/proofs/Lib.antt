pub mod PlaceLemmas
pub use Rattle.world_facts.proofs.Growths
pub use Rattle.world_facts.proofs.Ranges
pub use Rattle.world_facts.proofs.Steps
