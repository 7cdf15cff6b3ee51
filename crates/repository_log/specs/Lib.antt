pub mod Expiries
pub mod Logs
pub mod Lookups
pub mod Opening
