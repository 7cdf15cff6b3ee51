pub mod Heights
pub mod Sessions
