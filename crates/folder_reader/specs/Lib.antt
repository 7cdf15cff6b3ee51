pub mod Failures
pub mod Strips
