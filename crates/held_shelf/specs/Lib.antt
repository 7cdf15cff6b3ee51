pub mod AskedNames
pub mod Held
pub mod PutBack
pub mod Slots
