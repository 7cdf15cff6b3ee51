pub mod Kept
pub mod Shelves
pub mod Standings
pub mod Volumes
pub use Rattle.run_media.specs.Media
pub use Rattle.run_media.specs.Openings
pub use Rattle.run_media.specs.Places
pub use Rattle.run_media.specs.declared.openings.Opening
