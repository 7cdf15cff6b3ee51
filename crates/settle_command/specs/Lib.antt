pub mod Contract
pub mod Plans
pub mod Tellings
