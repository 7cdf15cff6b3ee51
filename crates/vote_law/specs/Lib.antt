pub mod Smooth
pub use Rattle.vote_traces.specs.Causes
pub use Rattle.vote_traces.specs.Legal
pub use Rattle.vote_traces.specs.Replays
pub use Rattle.vote_traces.specs.Walks
