mod Pages
mod Blanks
mod Disks
mod Held
mod MetLemmas
mod SlotLemmas
pub mod Names
