pub mod Followed
pub mod Folds
pub mod Lists
pub mod Refusals
pub mod Rules
pub mod Standings
pub mod Totals
