pub mod Answers
pub mod Archives
pub mod Lines
pub mod Versions
