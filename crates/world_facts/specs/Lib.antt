pub mod Acknowledged
pub mod AnyRules
pub mod Earlier
pub mod NodeRules
pub mod Refines
pub mod Rules
pub mod Soft
