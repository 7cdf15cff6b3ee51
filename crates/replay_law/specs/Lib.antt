pub mod Folders
pub mod Replays
