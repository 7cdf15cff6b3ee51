pub mod Causes
pub mod Clocks
pub mod Counts
pub mod Fates
pub mod Streams
