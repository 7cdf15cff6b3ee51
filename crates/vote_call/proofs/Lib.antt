pub mod BeginLemmas
pub mod FinishLemmas
pub mod StartLemmas
pub mod Names
