pub mod Clocks
pub mod Homes
pub mod Joined
pub mod Latest
pub mod Met
pub mod Opens
