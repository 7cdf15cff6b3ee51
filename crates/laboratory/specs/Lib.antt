pub mod Calls
pub mod Fates
pub mod Given
pub mod Losses
pub mod Options
pub mod Runs
pub mod Shelves
