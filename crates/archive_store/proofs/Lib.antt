pub mod ArchiveLemmas
pub mod HolderLemmas
pub mod HomeLemmas
pub mod JoinLemmas
pub mod LatestLemmas
pub mod Names
