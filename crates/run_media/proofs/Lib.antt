pub mod BlankImageLemmas
pub mod OpeningLemmas
pub mod OrderLemmas
pub mod Names
