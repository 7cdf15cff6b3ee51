pub mod GrowthLemmas
pub mod MessageLaws
pub mod ReadLaws
