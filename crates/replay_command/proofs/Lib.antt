pub mod CountLemmas
pub mod JudgeLemmas
pub mod LogLemmas
pub mod NodeLemmas
pub mod TextLemmas
