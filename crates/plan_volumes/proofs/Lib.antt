pub mod ApartLemmas
pub mod KeepLemmas
pub mod PlaceLemmas
pub use Rattle.run_volumes.proofs.BlankImageLemmas
pub use Rattle.run_volumes.proofs.OrderLemmas
pub use Rattle.run_volumes.proofs.ShelfLemmas
pub use Rattle.run_volumes.proofs.StandLemmas
pub mod Names
