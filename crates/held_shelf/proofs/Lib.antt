mod HeldLemmas
mod SlotLemmas
pub mod Names
