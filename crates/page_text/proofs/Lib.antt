pub mod EscapeLemmas
pub mod TagLemmas
pub mod WorkedTexts
