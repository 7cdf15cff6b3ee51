pub mod CarryLemmas
pub use Rattle.wire_core.proofs.DueLemmas
pub use Rattle.wire_core.proofs.MomentLemmas
pub use Rattle.wire_core.proofs.QuietLemmas
pub use Rattle.vote_traces.proofs.CauseLemmas
pub use Rattle.vote_traces.proofs.WalkLemmas
