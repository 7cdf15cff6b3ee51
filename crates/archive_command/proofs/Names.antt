-- The names that the proofs of this crate cite, passed on from one place. Declares nothing.
pub use Rattle.archive_command.specs.Answers.{Answers, AnswersOver, GivesMap, RefusesFor, asked_of}
pub use Rattle.archive_command.specs.Archives.{Complete, archive_of, complete_from, is_complete, volumes_of}
pub use Rattle.archive_command.specs.Lines.{mark_text, moved_line}
pub use Rattle.archive_command.specs.Versions.{count_until, told_line, versions_of, with_version}
pub use Rattle.object_history.specs.declared.marks.Mark.{Mark}
pub use Rattle.pseudo_time.specs.TimeParts.{TimeParts}
pub use Rattle.repository_log.specs.Logs.{marks}
pub use Rattle.run_volumes.specs.Opening.{Opening}
pub use Rattle.run_volumes.specs.Openings.{log_in, medium_in}
pub use Rattle.run_volumes.specs.Shelves.{ShelfSight, first_names, shelf_sight}
pub use Rattle.run_volumes.specs.Volumes.{AreVolumes, logs_of}
pub use Rattle.std.proofs.Common.{Bool, List, Option, Some, [], ap, arith, drop, false, if◌then◌else◌, inl, inr, length, map, not, refl, reverse, slice_index_or, subst, suc, sym, take, true, zero, ℕ, ◌&&◌, ◌++◌, ◌+◌, ◌<◌, ◌==◌, ◌∙◌, ◌∷◌, ◌≡◌, ◌≤◌, ◌⊎◌}
pub use Rattle.std.proofs.lemmas.List.{append_assoc, length-map}
pub use Rattle.std.specs.List.{flat_map}
pub use Rattle.std.specs.Prelude.{Err, Ok, OnOk, Result, codes}
