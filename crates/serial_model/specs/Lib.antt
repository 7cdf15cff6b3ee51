pub mod Alone
pub mod Asked
pub mod Deeds
pub mod Overlays
pub mod Questions
pub mod Ranges
pub mod Requests
