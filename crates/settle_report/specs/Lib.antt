pub mod Ledgers
pub mod Texts
pub mod Versions
