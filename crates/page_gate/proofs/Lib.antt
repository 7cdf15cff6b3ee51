mod TornPages
mod Puts
pub mod Names
