pub use Rattle.world_core.proofs.KnowsLemmas
pub mod LifeLemmas
pub mod MediumLemmas
pub mod ReadyLemmas
pub mod TrailLemmas
pub use Rattle.message_core.proofs.NodeLemmas as NodeNameLemmas
pub use Rattle.pseudo_time.proofs.ListLemmas
pub use Rattle.wire_core.proofs.Crosses as WireCrosses
pub use Rattle.wire_core.proofs.ScriptCrosses
pub use Rattle.wire_lock.proofs.Crosses
pub use Rattle.wire_lock.proofs.SightLemmas
pub use Rattle.world_core.proofs.CoreTurns
pub use Rattle.world_core.proofs.Lives as WorldLives
pub mod Names
