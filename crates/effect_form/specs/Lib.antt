pub mod EffectReads
pub mod Effects
pub mod Outcomes
pub mod Sequences
