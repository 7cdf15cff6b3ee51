pub mod DueLemmas
pub mod RecordLemmas
