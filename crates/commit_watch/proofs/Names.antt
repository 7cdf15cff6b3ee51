-- The names that the proofs of this crate cite, passed on from one place. Declares nothing.
pub use Rattle.commit_watch.specs.Folds.{advanced, and_then, fresh, is_retired, moved_to, unless_retired, version_of}
unfoldable pub use Rattle.commit_watch.specs.Folds.{moved_over}
pub use Rattle.commit_watch.specs.Lists.{AreRising, by_order, cursor_of, object_lt, or_before, total_of, with_change}
unfoldable pub use Rattle.commit_watch.specs.Lists.{moved_at, with_all, with_moved}
pub use Rattle.commit_watch.specs.Standings.{StandingParts, Terms, earlier, empty_standing, is_lost, is_stopped, is_wanted, put_of, settled_in, standing_at, stood, with_version}
unfoldable pub use Rattle.commit_watch.specs.Standings.{all_above, standing_of, terms_in, version_in}
pub use Rattle.commit_watch.specs.declared.faults.WatchFault.{WatchFault}
pub use Rattle.commit_watch.specs.declared.moved.Moved.{Moved}
pub use Rattle.commit_watch.specs.declared.scans.Scan.{Scan}
pub use Rattle.commit_watch.specs.declared.versions.Version.{Version}
pub use Rattle.object_history.proofs.BoolLemmas.{and-left, not-false, not-true}
pub use Rattle.object_history.proofs.MapLemmas.{Puts, found_at}
pub use Rattle.object_history.proofs.ObjectLemmas.{same_object-is}
pub use Rattle.object_history.proofs.TrackLemmas.{on_ok}
pub use Rattle.object_history.specs.History.{Seen, floor_of, is_committed, is_settled, or_else, version_count}
unfoldable pub use Rattle.object_history.specs.History.{settle_of}
unfoldable pub use Rattle.object_history.specs.Objects.{same_object}
pub use Rattle.object_history.specs.Settled.{Adds, is_blocked, settled_versions}
unfoldable pub use Rattle.object_history.specs.Settled.{insert, listed}
pub use Rattle.object_history.specs.declared.marks.Mark.{Mark}
pub use Rattle.object_history.specs.declared.marks.Mark.TheVariants.{Floor, Put, Settle, Stretch}
pub use Rattle.pseudo_time.proofs.OrderLemmas.{is_less, lt-asymmetric, lt-irreflexive, lt-split, lt-total, lt-trans, same_stamp-is, stamp_cmp-total}
pub use Rattle.pseudo_time.specs.Lists.{Every, Has}
pub use Rattle.pseudo_time.specs.Order.{lt}
unfoldable pub use Rattle.pseudo_time.specs.Order.{same_stamp}
pub use Rattle.pseudo_time.specs.StampParts.{StampParts, stamp_cmp}
pub use Rattle.pseudo_time.specs.TimeParts.{TimeParts}
pub use Rattle.std.proofs.Common.{Bool, List, None, Option, Some, [], ap, arith, cond, drop, false, filter, if◌then◌else◌, inl, inr, length, map, not, refl, reverse, rules, slice_index_or, slice_set, subst, suc, sym, take, true, zero, ℕ, ◌&&◌, ◌++◌, ◌+◌, ◌<◌, ◌||◌, ◌∙◌, ◌∷◌, ◌≡◌, ◌≢◌, ◌≤◌}
pub use Rattle.std.proofs.lemmas.Bool.{false≢true, true≢false}
pub use Rattle.std.specs.BTreeMap.{get}
pub use Rattle.std.specs.FinMap.{get-empty, get-insert}
pub use Rattle.std.specs.List.{AllWithin}
pub use Rattle.std.specs.Option.{option_copied}
pub use Rattle.std.specs.Ordering.{is_eq, is_gt, is_lt, nat_cmp, ordering_reverse, ordering_then}
pub use Rattle.std.specs.Prelude.{Err, IfErr, IfOk, IfSome, IsOk, IsSome, Ok, Result, is_ok, is_some, unwrap_or, ◌==◌, ◌⊎◌}
pub use Rattle.value_form.specs.Objects.{object_cmp}
pub use Rattle.value_form.specs.declared.objects.ObjectId.{ObjectId}
pub use Rattle.value_form.specs.declared.values.Value.{Value}
