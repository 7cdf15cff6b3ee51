pub mod Attempts
pub mod Replays
pub mod Works
