-- The names that the proofs of this crate cite, passed on from one place. Declares nothing.
pub use Rattle.archive_store.specs.Joined.{given_up, is_floor, is_new, joined_with, later}
unfoldable pub use Rattle.archive_store.specs.Joined.{all_firsts, firsts, has_start, holder_of, last_log, met_after}
pub use Rattle.archive_store.specs.Latest.{entry_of, is_open, is_wanting, last_below}
pub use Rattle.archive_store.specs.Met.{Meets, start_cmp}
pub use Rattle.archive_store.specs.Opens.{first_open, is_unsettled, lesser}
unfoldable pub use Rattle.archive_store.specs.Opens.{first_among}
pub use Rattle.archive_store.specs.declared.starts.Start.{Start}
unfoldable pub use Rattle.commit_watch.specs.Lists.{moved_at}
unfoldable pub use Rattle.object_history.specs.Answers.{some_put}
pub use Rattle.object_history.specs.History.{Seen, is_committed, is_settled, settle_of, starts_above, top, version_count}
unfoldable pub use Rattle.object_history.specs.History.{floor_of, pick, scan}
unfoldable pub use Rattle.object_history.specs.Objects.{same_object}
pub use Rattle.object_history.specs.declared.marks.Mark.{Mark}
pub use Rattle.object_history.specs.declared.marks.Mark.TheVariants.{Floor, Put, Settle, Stretch}
pub use Rattle.pseudo_time.specs.Lists.{Every}
pub use Rattle.pseudo_time.specs.Order.{lt}
unfoldable pub use Rattle.pseudo_time.specs.Order.{same_time}
pub use Rattle.pseudo_time.specs.TimeParts.{TimeParts, time_cmp}
pub use Rattle.std.proofs.Common.{Bool, List, None, Option, Some, [], ap, arith, cond, drop, false, filter, if◌then◌else◌, inl, inr, length, map, not, refl, reverse, slice_index_or, subst, suc, sym, take, true, zero, ℕ, ◌&&◌, ◌++◌, ◌+◌, ◌-◌, ◌<◌, ◌==◌, ◌||◌, ◌∙◌, ◌∷◌, ◌≡◌, ◌≤◌}
pub use Rattle.std.proofs.lemmas.Bool.{false≢true, true≢false}
pub use Rattle.std.proofs.lemmas.List.{reverse-append}
pub use Rattle.std.specs.Prelude.{Err, Ok, Result, is_some, ◌⊎◌}
pub use Rattle.value_form.specs.declared.objects.ObjectId.{ObjectId}
pub use Rattle.value_form.specs.declared.values.Value.{Value}
