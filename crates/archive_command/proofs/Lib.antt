pub mod VersionLemmas
pub mod AnswerLemmas
pub mod ArchiveLemmas
pub mod Names
