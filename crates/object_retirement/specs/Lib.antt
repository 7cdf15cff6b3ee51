pub mod Chains
pub mod Forward
pub mod Older
pub mod Retired
pub mod Stood
