pub mod WordLemmas
pub mod Names
