pub mod ByteOrder
pub mod EqualLemmas
pub mod ListLemmas
pub mod OrderLemmas
pub mod Names
