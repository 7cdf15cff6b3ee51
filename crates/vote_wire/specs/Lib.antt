pub mod Carried
pub use Rattle.wire_core.specs.Clocked
pub use Rattle.wire_core.specs.Copies
pub use Rattle.wire_core.specs.Flagged
pub use Rattle.vote_traces.specs.Legal
pub use Rattle.vote_traces.specs.Walks
