pub mod AgreeLemmas
pub mod ExpiryLemmas
pub mod LogLemmas
pub mod MarkLemmas
pub mod OpenLemmas
pub mod Names
