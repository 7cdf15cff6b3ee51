pub mod ShelfLemmas
pub mod StandLemmas
pub mod VolumeLemmas
pub use Rattle.run_media.proofs.BlankImageLemmas
pub use Rattle.run_media.proofs.OrderLemmas
pub mod Names
