pub mod Archives
pub mod AsOf
pub mod Audits
pub mod Totals
pub use Rattle.serial_law.specs.Earlier
