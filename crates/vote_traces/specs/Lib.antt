pub mod Causes
pub mod Legal
pub mod Replays
pub mod Rows
pub mod Walks
