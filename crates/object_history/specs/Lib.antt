pub mod Answers
pub mod Causes
pub mod History
pub mod Kept
pub mod Objects
pub mod Ranges
pub mod Settled
pub mod Views
