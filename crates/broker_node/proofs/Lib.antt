pub mod CoreLemmas
pub use Rattle.node_turn.proofs.Crosses
pub use Rattle.node_turn.proofs.LifeLemmas
pub use Rattle.node_turn.proofs.PageLemmas as TurnPageLemmas
pub use Rattle.node_turn.proofs.PhaseLemmas
pub use Rattle.node_turn.proofs.ScriptCrosses
pub use Rattle.node_turn.proofs.SightLemmas
pub use Rattle.node_turn.proofs.StepLemmas
pub use Rattle.node_turn.proofs.TrailLemmas
pub use Rattle.node_turn.proofs.WindowLemmas
pub use Rattle.node_turn.proofs.WireCrosses
pub use Rattle.node_turn.proofs.hands
pub mod Names
