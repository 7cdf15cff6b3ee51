pub mod Lines
pub mod Totals
pub mod Watches
pub use Rattle.archive_command.specs.Answers
pub use Rattle.archive_command.specs.Archives
pub use Rattle.archive_command.specs.Lines as ArchiveLines
pub use Rattle.archive_command.specs.Versions
pub use Rattle.archive_command.specs.declared.outcomes.Outcome
pub use Rattle.archive_command.specs.declared.questions.Question
pub use Rattle.run_volumes.specs.Kept
pub use Rattle.run_volumes.specs.declared.kept.Kept as KeptMedium
pub use Rattle.run_volumes.specs.Media
pub use Rattle.run_volumes.specs.Opening
pub use Rattle.run_volumes.specs.Openings
pub use Rattle.run_volumes.specs.Shelves
pub use Rattle.run_volumes.specs.Standings
pub use Rattle.run_volumes.specs.Volumes
