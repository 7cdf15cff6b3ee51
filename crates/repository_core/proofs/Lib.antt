pub mod BookLemmas
pub mod HearLemmas
pub mod HeldLemmas
pub mod RowLemmas
pub mod TurnLemmas
pub use Rattle.repository_draft.proofs.waits
pub mod Names
