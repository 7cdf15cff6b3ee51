pub mod AnsweredLemmas
pub mod OpenLemmas
pub mod RetiredLemmas
pub mod SnappedLemmas
pub mod WatchedLemmas
pub use Rattle.snapshot_command.proofs.KeptLemmas
pub use Rattle.snapshot_command.proofs.RepositoryLemmas
