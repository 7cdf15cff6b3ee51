pub mod Making
pub mod PlanFaults
pub mod PlanTexts
pub mod Plans
pub mod Reading
pub mod Reads
