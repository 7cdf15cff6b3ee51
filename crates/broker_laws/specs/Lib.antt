pub mod AnyLogs
pub mod Fits
pub mod Posts
pub mod Waits
pub mod Works
