-- The names that the proofs of this crate cite, passed on from one place. Declares nothing.
pub use Rattle.object_history.proofs.BoolLemmas.{not-false}
pub use Rattle.object_history.specs.History.{Seen, alive, is_alive, latest, or_else, place_of, same_place, sees, starts_above, top}
unfoldable pub use Rattle.object_history.specs.History.{floor_of, pick, scan, settle_of, stretched, version_count}
pub use Rattle.object_history.specs.Kept.{Settled}
pub use Rattle.object_history.specs.Objects.{same_object}
pub use Rattle.object_history.specs.declared.marks.Mark.{Mark}
pub use Rattle.object_history.specs.declared.marks.Mark.TheVariants.{Floor, Put, Settle, Stretch}
pub use Rattle.pseudo_time.proofs.OrderLemmas.{lt-asymmetric, lt-fall, same_stamp-is, stamp_cmp-total}
pub use Rattle.pseudo_time.specs.Lists.{Every}
pub use Rattle.pseudo_time.specs.Order.{lt}
unfoldable pub use Rattle.pseudo_time.specs.Order.{same_stamp}
pub use Rattle.pseudo_time.specs.TimeParts.{TimeParts}
pub use Rattle.report_writer.specs.Histories.{head_text, marks_text, version_line, version_text, versions}
unfoldable pub use Rattle.report_writer.specs.Histories.{falling, version_in}
pub use Rattle.report_writer.specs.Reports.{act_text, down_text, final_text, totals_text, try_text}
pub use Rattle.report_writer.specs.Tellings.{Holds, Tells, count_above, first_place, is_visible, told_line, told_of}
pub use Rattle.report_writer.specs.declared.versions.Version.{Version}
pub use Rattle.repository_log.specs.Logs.{mark_of, marks}
pub use Rattle.std.proofs.Common.{Bool, List, None, Option, Some, [], ap, arith, cond, drop, false, if◌then◌else◌, length, map, not, refl, reverse, slice_index_or, slice_set, subst, suc, sym, take, true, zero, ℕ, ◌&&◌, ◌++◌, ◌+◌, ◌<◌, ◌==◌, ◌∙◌, ◌∷◌, ◌≡◌, ◌≤◌}
pub use Rattle.std.proofs.lemmas.Bool.{false≢true, true≢false}
pub use Rattle.std.proofs.lemmas.Grind.{common_steps}
pub use Rattle.std.specs.List.{flat_map}
pub use Rattle.std.specs.Option.{is_some, option_map, option_to_list}
pub use Rattle.value_form.specs.declared.objects.ObjectId.{ObjectId}
