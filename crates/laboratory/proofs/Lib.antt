mod GivenLemmas
mod RunLemmas
mod WordLemmas
pub mod Names
