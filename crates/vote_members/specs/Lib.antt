pub mod Closings
pub mod Costs
