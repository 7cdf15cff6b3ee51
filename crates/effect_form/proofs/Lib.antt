pub mod EffectLaws
pub mod OutcomeLaws
pub mod Pieces
pub mod ReadLaws
pub mod SequenceLaws
pub mod SizeLaws
pub mod Names
