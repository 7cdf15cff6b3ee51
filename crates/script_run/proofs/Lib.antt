pub mod AskLemmas
pub mod FallLemmas
pub mod KeepLemmas
pub mod LineLemmas
pub mod RangeLemmas
pub mod RunLemmas
pub mod Names
