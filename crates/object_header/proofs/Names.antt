-- The names that the proofs of this crate cite, passed on from one place. Declares nothing.
pub use Rattle.effect_form.specs.declared.effects.Effect.{Effect}
pub use Rattle.effect_form.specs.declared.effects.Place.{Place}
pub use Rattle.object_header.specs.Heads.{Fits, Headed, IsHead, Rising, head_at}
unfoldable pub use Rattle.object_header.specs.Heads.{first_put, spans_in}
pub use Rattle.object_header.specs.Ledgers.{BeneathParts, IsIndexed, IsLedger, LedgerParts, content, is_odd, odd_in, stored}
pub use Rattle.object_header.specs.Marks.{Walks, added, depth, is_here, mark_put, marks_in, put_found}
pub use Rattle.object_header.specs.Odd.{is_kept}
unfoldable pub use Rattle.object_header.specs.Odd.{kept_of}
pub use Rattle.object_header.specs.Plans.{PlansRead, answer_first, first, is_written, plan_span, waits}
pub use Rattle.object_header.specs.Spans.{AreAlike, HeadParts, as_odd, empty_head, ended, is_firm, is_living, passes, read_up_to, with_end, with_version, within}
unfoldable pub use Rattle.object_header.specs.Spans.{current, look, marked}
pub use Rattle.object_header.specs.declared.heads.Look.{Look}
pub use Rattle.object_header.specs.declared.heads.Span.{Span}
pub use Rattle.object_header.specs.declared.limits.Limit.{Limit}
pub use Rattle.object_history.proofs.KeptLemmas.{scan-under, stretched-new}
pub use Rattle.object_history.proofs.MapLemmas.{Puts, found_at, get-entries_of}
pub use Rattle.object_history.proofs.ObjectLemmas.{same_object-is, same_object-of}
pub use Rattle.object_history.proofs.ScanLemmas.{Standing, same-scan, standing, stands-starts}
pub use Rattle.object_history.proofs.StableLemmas.{low-all, scan-passes, starts-all, starts-map}
pub use Rattle.object_history.proofs.Words.{Low, Passes}
pub use Rattle.object_history.specs.Answers.{is_above, is_over, needs_stretch, read_from, read_seen, read_step, settled_over, stands_written, write_newest, write_reach, write_step}
unfoldable pub use Rattle.object_history.specs.Answers.{has_put, some_put}
pub use Rattle.object_history.specs.History.{Seen, alive, is_alive, is_committed, is_settled, latest, newest, or_else, place_of, reach, read_to, same_place, sees, starts_above, top}
unfoldable pub use Rattle.object_history.specs.History.{floor_of, pick, scan, settle_of, stretched, version_count}
pub use Rattle.object_history.specs.Kept.{Settled}
pub use Rattle.object_history.specs.Objects.{same_value}
unfoldable pub use Rattle.object_history.specs.Objects.{same_object}
pub use Rattle.object_history.specs.Ranges.{AreMarks, IsMark}
pub use Rattle.object_history.specs.Views.{IsOnFloor, Starts}
pub use Rattle.object_history.specs.declared.marks.Mark.{Mark}
pub use Rattle.object_history.specs.declared.marks.Mark.TheVariants.{Floor, Put, Settle, Stretch}
pub use Rattle.object_history.specs.declared.steps.WriteStep.{WriteStep}
pub use Rattle.pseudo_time.proofs.OrderLemmas.{lt-asymmetric, lt-irreflexive, lt-split, same_stamp-is, same_time-is, stamp_cmp-total}
pub use Rattle.pseudo_time.specs.Order.{lt, same_time}
unfoldable pub use Rattle.pseudo_time.specs.Order.{same_stamp}
pub use Rattle.pseudo_time.specs.StampParts.{StampParts, stamp_cmp}
pub use Rattle.pseudo_time.specs.TimeParts.{TimeParts}
pub use Rattle.repository_log.specs.Logs.{HasMarks, mark_of, marks}
pub use Rattle.std.proofs.Common.{Bool, IsTrue, List, None, Option, Some, [], ap, arith, cond, drop, false, if◌then◌else◌, length, length-append, not, refl, reverse, rules, slice_index_or, slice_set, subst, suc, sym, take, true, zero, ℕ, ◌&&◌, ◌++◌, ◌+◌, ◌-◌, ◌<◌, ◌==◌, ◌||◌, ◌∙◌, ◌∷◌, ◌≡◌, ◌≤◌}
pub use Rattle.std.proofs.Math.Seq.{take-suc}
pub use Rattle.std.proofs.lemmas.Bool.{cond-false, cond-true, false≢true, true≢false}
pub use Rattle.std.proofs.lemmas.Grind.{common_steps}
pub use Rattle.std.proofs.lemmas.List.{append-nil, append_assoc, append_cancel_right, reverse-append, take-append-drop, take_all, take_at}
pub use Rattle.std.proofs.lemmas.Result.{on_err_weaker, on_ok_weaker}
pub use Rattle.std.specs.List.{push}
pub use Rattle.std.specs.Option.{is_some, option_map}
pub use Rattle.std.specs.Ordering.{is_eq, nat_cmp, ordering_then}
pub use Rattle.std.specs.Prelude.{Err, IfOk, IfSome, Ok, OnErr, OnOk, Result, unwrap_or}
pub use Rattle.value_form.proofs.ObjectLemmas.{object_cmp-exact, object_cmp-total}
pub use Rattle.value_form.specs.Objects.{object_cmp}
pub use Rattle.value_form.specs.declared.objects.ObjectId.{ObjectId}
pub use Rattle.value_form.specs.declared.values.Value.{Value}
pub use Rattle.value_form.specs.declared.values.Value.TheVariants.{Nothing}
pub use Rattle.version_store.specs.Entries.{Entry, IsBefore, IsIn, Log, back_in, effects_of, is_object, last_put, put_object}
pub use Rattle.version_store.specs.Fetch.{StandsAt, damage_after}
pub use Rattle.version_store.specs.Storage.{log_of}
pub use Rattle.version_store.specs.StoreWords.{damage_in, effects_in, left_in, log_in, medium_of}
