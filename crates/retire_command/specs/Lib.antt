pub mod Lines
pub mod Retires
