pub mod Growth
pub mod MessageReads
pub mod Messages
pub mod Posts
pub mod Ranges
