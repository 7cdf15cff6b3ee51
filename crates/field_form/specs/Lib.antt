pub mod Decisions
pub mod Forms
pub mod Numbers
pub mod Times
