-- The names that the proofs of this crate cite, passed on from one place. Declares nothing.
pub use Rattle.effect_form.specs.declared.effects.Effect.{Effect}
pub use Rattle.effect_form.specs.declared.effects.Effect.TheVariants.{Acked, Act, Begin, Decide, End, Got, Learn, Mark, Put, Run, Stretch, Try, Whole}
pub use Rattle.forward_copy.specs.Carried.{LeavesFront}
pub use Rattle.forward_copy.specs.Firms.{AreFirm, FirmMap, firm_of, is_index, last_of, starts_over, stays_above, with_put}
pub use Rattle.forward_copy.specs.Opens.{first_open, lesser, put_below, version_cmp, when_open, with_version}
pub use Rattle.forward_copy.specs.Settled.{AreKnown, with_decision}
pub use Rattle.forward_copy.specs.Sifted.{between, sifted, stays}
pub use Rattle.forward_copy.specs.Wholes.{has_whole}
pub use Rattle.forward_copy.specs.declared.versions.Version.{Version}
pub use Rattle.medium_port.specs.Image.{Image}
pub use Rattle.object_history.proofs.MapLemmas.{get-entries_of, insert-entries_of}
pub use Rattle.object_history.proofs.TrackLemmas.{on_ok}
pub use Rattle.object_history.specs.History.{Seen, is_committed, or_else, place_of, same_place}
unfoldable pub use Rattle.object_history.specs.History.{pick, scan, settle_of, version_count}
pub use Rattle.object_history.specs.Kept.{Settled}
pub use Rattle.object_retirement.specs.Forward.{MayRetire, carried, forward}
pub use Rattle.object_retirement.specs.Retired.{last_firm, stays_put}
pub use Rattle.pseudo_time.proofs.OrderLemmas.{same_stamp-is, stamp_cmp-total, time_cmp-total}
pub use Rattle.pseudo_time.specs.Lists.{Every, Has}
pub use Rattle.pseudo_time.specs.Order.{lt}
unfoldable pub use Rattle.pseudo_time.specs.Order.{same_stamp}
pub use Rattle.pseudo_time.specs.StampParts.{StampParts, stamp_cmp}
pub use Rattle.pseudo_time.specs.TimeParts.{TimeParts}
pub use Rattle.repository_log.specs.Logs.{decided_by, is_commit, known, marks}
pub use Rattle.std.proofs.Common.{Bool, List, None, Ok, Option, Result, Some, [], ap, arith, cond, false, if◌then◌else◌, inl, inr, length, not, refl, reverse, rules, slice_index_or, subst, suc, sym, take, true, zero, ℕ, ◌&&◌, ◌++◌, ◌+◌, ◌<◌, ◌==◌, ◌||◌, ◌∙◌, ◌∷◌, ◌≡◌, ◌≢◌, ◌≤◌, ◌⊎◌}
pub use Rattle.std.proofs.lemmas.Bool.{false≢true, true≢false}
pub use Rattle.std.proofs.lemmas.Cmp.{eq_by_cmp_equiv, on_total, then_total, upto}
pub use Rattle.std.proofs.lemmas.Grind.{common_steps}
pub use Rattle.std.specs.FinMap.{get-empty, get-insert}
pub use Rattle.std.specs.Ordering.{is_eq, is_gt, is_lt, ordering_reverse}
pub use Rattle.value_form.proofs.ObjectLemmas.{object_cmp-exact, object_cmp-total}
pub use Rattle.value_form.specs.Objects.{object_cmp}
pub use Rattle.value_form.specs.declared.objects.ObjectId.{ObjectId}
pub use Rattle.value_form.specs.declared.values.Value.{Value}
pub use Rattle.version_store.specs.Filling.{HasPrefix}
pub use Rattle.version_store.specs.Storage.{effects_found, storage}
