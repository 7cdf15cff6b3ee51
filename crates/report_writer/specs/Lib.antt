pub mod Histories
pub mod Lines
pub mod Parts
pub mod Reports
pub mod Standings
pub mod Tellings
