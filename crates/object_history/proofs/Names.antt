-- The names that the proofs of this crate cite, passed on from one place. Declares nothing.
pub use Rattle.object_history.specs.Answers.{after_read, is_above, is_over, needs_stretch, read_from, read_seen, read_step, settled_over, stands_written, write_newest, write_reach, write_step}
unfoldable pub use Rattle.object_history.specs.Answers.{has_put, some_put}
pub use Rattle.object_history.specs.History.{Seen, alive, is_alive, is_committed, is_settled, latest, newest, or_else, place_of, reach, read_to, same_place, sees, starts_above, top}
unfoldable pub use Rattle.object_history.specs.History.{floor_of, pick, scan, settle_of, stretched, version_count}
pub use Rattle.object_history.specs.Kept.{HasEnd, IsKept, IsWhole, Keeps, Settled, TrackParts, Tracked, empty_track, is_below, is_firm, is_living, is_past, joined, read_up_to, seen_in, takes_over, tops, track_at, track_of, value_put, value_under, with_end, with_version}
unfoldable pub use Rattle.object_history.specs.Kept.{ended_at, last_of, rising, some_version, versions_in}
unfoldable pub use Rattle.object_history.specs.Objects.{same_object, same_value}
pub use Rattle.object_history.specs.Ranges.{AreMarks, IsMark}
pub use Rattle.object_history.specs.Views.{Covers, Distinct, Firm, Fits, Grown, HasPut, IsOnFloor, IsVersion, Shut, Starts, Viewed, shows, value_of, views}
pub use Rattle.object_history.specs.declared.marks.Mark.{Mark}
pub use Rattle.object_history.specs.declared.marks.Mark.TheVariants.{Floor, Put, Settle, Stretch}
pub use Rattle.object_history.specs.declared.steps.ReadStep.TheVariants.{Answer, LaterRead, Wait}
pub use Rattle.object_history.specs.declared.steps.WriteStep.{WriteStep}
pub use Rattle.object_history.specs.declared.versions.Version.{Version}
pub use Rattle.pseudo_time.proofs.OrderLemmas.{between, is_equal, lt-asymmetric, lt-fall, lt-irreflexive, lt-split, lt-total, lt-trans, same_stamp-is, same_stamp-of, same_time-is, stamp_cmp-exact, stamp_cmp-total}
pub use Rattle.pseudo_time.specs.Lists.{Every, Has}
pub use Rattle.pseudo_time.specs.Order.{lt}
unfoldable pub use Rattle.pseudo_time.specs.Order.{same_stamp, same_time}
pub use Rattle.pseudo_time.specs.StampParts.{StampParts, stamp_cmp}
pub use Rattle.pseudo_time.specs.TimeParts.{TimeParts}
pub use Rattle.std.proofs.Common.{Bool, List, None, Option, Some, [], ap, arith, cond, false, if◌then◌else◌, inl, inr, length, nat_lt, not, refl, reverse, rules, slice_index_or, slice_set, subst, suc, sym, true, zero, ℕ, ◌&&◌, ◌++◌, ◌+◌, ◌<◌, ◌==◌, ◌||◌, ◌∙◌, ◌∷◌, ◌≡◌, ◌≢◌, ◌≤◌, ◌⊎◌}
pub use Rattle.std.proofs.lemmas.Bool.{false≢true, true≢false}
pub use Rattle.std.proofs.lemmas.Cmp.{eq_by_cmp_equiv}
pub use Rattle.std.proofs.lemmas.Grind.{common_steps}
pub use Rattle.std.proofs.lemmas.List.{length-reverse, reverse-append, reverse-reverse}
pub use Rattle.std.specs.Cmp.{IsTotalOrder, signed_Decides, tied_itself}
pub use Rattle.std.specs.FinMap.{find, from_entries, get, get-empty, get-from_entries, get-insert, insert, same_map}
pub use Rattle.std.specs.List.{push}
pub use Rattle.std.specs.Option.{is_some, option_copied, option_map}
pub use Rattle.std.specs.Ordering.{is_eq, nat_cmp, ordering_then}
pub use Rattle.std.specs.Prelude.{Err, Ok, OnErr, OnOk, Result, unwrap_or}
pub use Rattle.std.specs.declared.cmp.Ordering.{Ordering}
pub use Rattle.value_form.proofs.ObjectLemmas.{object_cmp-exact, object_cmp-total}
pub use Rattle.value_form.specs.Objects.{object_cmp}
pub use Rattle.value_form.specs.ValueBytes.{IsValue}
pub use Rattle.value_form.specs.declared.objects.ObjectId.{ObjectId}
pub use Rattle.value_form.specs.declared.values.Value.{Value}
pub use Rattle.value_form.specs.declared.values.Value.TheVariants.{Nothing, Number, Text}
