pub mod Places
pub mod Media
pub mod Openings
