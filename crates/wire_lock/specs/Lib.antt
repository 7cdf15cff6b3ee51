pub mod Sights
pub mod Decisions
pub mod Stories
