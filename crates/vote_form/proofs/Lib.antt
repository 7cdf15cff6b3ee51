pub mod LineLemmas
pub mod PollsLemmas
