pub mod ClauseLemmas
pub mod CompleteLemmas
pub mod Names
