pub mod Story
pub mod Rule
pub mod Steps
pub mod Passes
pub mod Words
