pub mod HeldLemmas
pub mod Names
