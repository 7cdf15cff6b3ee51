pub mod ChangeLemmas
pub mod FoldLemmas
pub mod ListLemmas
pub mod StandingLemmas
pub mod TotalLemmas
pub mod Names
