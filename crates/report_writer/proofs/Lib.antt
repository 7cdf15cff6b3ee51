pub mod FallingLemmas
pub mod PieceLemmas
pub mod TellingLemmas
pub mod TextLemmas
pub mod Names
