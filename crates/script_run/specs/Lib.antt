pub mod Machines
pub mod Runs
pub mod Standings
pub mod Steps
pub mod RunParts
