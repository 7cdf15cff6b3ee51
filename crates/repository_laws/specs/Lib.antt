pub mod AnyLogs
pub mod Facts
pub mod Givens
pub mod Served
pub mod Waits
