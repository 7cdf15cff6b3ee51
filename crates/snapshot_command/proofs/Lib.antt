pub mod NodeLemmas
pub mod PartLemmas
pub mod RepositoryLemmas
pub use Rattle.watch_command.proofs.KeptLemmas
