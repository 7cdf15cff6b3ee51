pub mod Learns
pub mod Loads
pub mod Steps
