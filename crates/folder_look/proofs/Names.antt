-- The names that the proofs of this crate cite, passed on from one place. Declares nothing.
pub use Rattle.effect_form.specs.declared.effects.Effect.{Effect}
pub use Rattle.folder_look.specs.Attempts.{ended_class, ended_text}
pub use Rattle.folder_look.specs.Axes.{axis_of, column, columns_below, with_rows, with_versions}
pub use Rattle.folder_look.specs.Choices.{has_object, has_start}
pub use Rattle.folder_look.specs.Homes.{told_as, told_at_home, with_decisions, with_homes}
pub use Rattle.folder_look.specs.Objects.{is_volume, logs_of, objects_left, rows_in, with_media, with_objects}
pub use Rattle.folder_look.specs.Rows.{current_marks, given_up, given_up_at, given_up_by, is_shown, row_of, rows_of, rows_with, starts_at, whole_row}
pub use Rattle.folder_look.specs.Tallies.{counted_all, counted_over, none, tally_of}
pub use Rattle.folder_look.specs.Told.{is_told_in, told_row}
pub use Rattle.folder_look.specs.Volumes.{is_log}
pub use Rattle.folder_look.specs.declared.choices.Choice.{Choice}
pub use Rattle.folder_look.specs.declared.looks.MediumLook.{MediumLook}
pub use Rattle.folder_look.specs.declared.looks.ObjectRow.{ObjectRow}
pub use Rattle.folder_look.specs.declared.looks.VersionRow.{VersionRow}
pub use Rattle.folder_look.specs.declared.tallies.Tally.{Tally}
pub use Rattle.forward_copy.specs.Currents.{current, current_from, log_at}
pub use Rattle.object_history.specs.History.{Seen, floor_of, latest, reach, stretched, top}
unfoldable pub use Rattle.object_history.specs.History.{version_count}
pub use Rattle.object_history.specs.declared.marks.Mark.{Mark}
pub use Rattle.pseudo_time.proofs.OrderLemmas.{same_time-is, time_cmp-exact}
pub use Rattle.pseudo_time.specs.Order.{lt}
unfoldable pub use Rattle.pseudo_time.specs.Order.{same_time}
pub use Rattle.pseudo_time.specs.TimeParts.{TimeParts, time_cmp}
pub use Rattle.report_writer.specs.Histories.{versions}
unfoldable pub use Rattle.report_writer.specs.Histories.{falling, version_in}
pub use Rattle.report_writer.specs.Parts.{kind_text, object_text, stamp_text, time_text}
pub use Rattle.report_writer.specs.Reports.{kind_word, named, refusal_text}
pub use Rattle.report_writer.specs.Tellings.{Holds, told_of}
pub use Rattle.report_writer.specs.declared.versions.Version.{Version}
pub use Rattle.repository_log.specs.Logs.{marks}
pub use Rattle.std.proofs.Common.{Bool, Err, List, None, Ok, OnOk, Option, Result, Some, [], ap, append_assoc, arith, codes, drop, false, get_or, if◌then◌else◌, inl, inr, length, map, nat_le, nat_lt, not, refl, reverse, rules, subst, suc, sym, take, true, zero, ℕ, ◌&&◌, ◌*◌, ◌++◌, ◌+◌, ◌-◌, ◌<◌, ◌==◌, ◌||◌, ◌∙◌, ◌∷◌, ◌≡◌, ◌≤◌, ◌⊎◌}
pub use Rattle.std.proofs.lemmas.Bool.Decides.{nat_tests}
pub use Rattle.std.proofs.lemmas.List.{append-nil, drop_more, reverse-append}
pub use Rattle.std.specs.BTreeSet.{BTreeSet, contains, insert_key}
pub use Rattle.std.specs.List.{filter, flat_map, list_any}
pub use Rattle.value_form.specs.declared.objects.ObjectId.{ObjectId}
pub use Rattle.value_form.specs.declared.values.Value.{Value}
