pub mod CauseLemmas
pub mod ReplayLemmas
pub mod RowLemmas
pub mod WalkLemmas
pub mod Names
