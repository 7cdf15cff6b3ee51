pub mod Asides
pub mod Volumes
pub use Rattle.run_volumes.specs.Kept
pub use Rattle.run_volumes.specs.declared.kept.Kept as KeptMedium
pub use Rattle.run_volumes.specs.Media
pub use Rattle.run_volumes.specs.Opening
pub use Rattle.run_volumes.specs.Openings
pub use Rattle.run_volumes.specs.Places
pub use Rattle.run_volumes.specs.Shelves
pub use Rattle.run_volumes.specs.Standings
pub use Rattle.run_volumes.specs.Volumes as RunVolumes
