pub mod HistoryLemmas
pub mod InputLemmas
pub mod OutcomeLemmas
pub mod PastLemmas
pub mod PromiseLemmas
pub mod RetirementLemmas
pub mod VoteLemmas
pub mod Names
