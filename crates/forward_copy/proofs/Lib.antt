pub mod CarryLemmas
pub mod FirmLemmas
pub mod OpenLemmas
pub mod RefusalLemmas
pub mod SettledLemmas
pub mod SiftLemmas
pub mod Names
