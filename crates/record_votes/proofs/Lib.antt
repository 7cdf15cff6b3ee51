pub mod BookLemmas
pub mod LogLemmas
pub mod MemberLemmas
pub mod PollLemmas
pub mod WorldLemmas
pub mod Names
