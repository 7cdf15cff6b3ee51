-- The names that the proofs of this crate cite, passed on from one place. Declares nothing.
pub use Rattle.commit_record.specs.States.{States, begin_step, begun, begun_at, expiry, listed_at, settled, settled_at}
pub use Rattle.commit_record.specs.declared.states.RecordState.{RecordState}
pub use Rattle.commit_record.specs.declared.states.RecordState.TheVariants.{Decided, Unknown}
pub use Rattle.effect_form.specs.declared.effects.Effect.{Effect}
pub use Rattle.effect_form.specs.declared.effects.Effect.TheVariants.{Acked, Act, Begin, Decide, End, Got, Learn, Put, Run, Stretch, Try}
pub use Rattle.object_history.specs.History.{or_else, top}
unfoldable pub use Rattle.object_history.specs.History.{floor_of, settle_of}
pub use Rattle.object_history.specs.Ranges.{AreMarks}
pub use Rattle.object_history.specs.declared.marks.Mark.{Mark}
pub use Rattle.pseudo_time.proofs.OrderLemmas.{is_equal, same_stamp-is, same_stamp-self, stamp_cmp-exact, stamp_cmp-total}
unfoldable pub use Rattle.pseudo_time.specs.Order.{same_stamp}
pub use Rattle.pseudo_time.specs.StampParts.{StampParts, stamp_cmp}
pub use Rattle.pseudo_time.specs.declared.decisions.Decision.{Decision}
pub use Rattle.repository_log.specs.Logs.{as_decision, began, began_by, begun_by, decided_by, is_commit, known, mark_of, marks, record_from, record_of}
unfoldable pub use Rattle.repository_log.specs.Logs.{decision_of, first_begin, knows}
pub use Rattle.repository_log.specs.Opening.{AreBegun, AreDecided, AreEarly, AreKept, AreRecords, kept_after}
pub use Rattle.std.proofs.Common.{Bool, List, [], ap, cond, false, get_or, length, map, refl, reverse, subst, sym, take, true, ℕ, ◌++◌, ◌+◌, ◌<◌, ◌∙◌, ◌∷◌, ◌≡◌, ◌≢◌}
pub use Rattle.std.proofs.lemmas.Cmp.{eq_by_cmp_equiv}
pub use Rattle.std.proofs.lemmas.List.{append_assoc, reverse-append, take_all, take_more}
pub use Rattle.std.specs.BTreeMap.{is_at}
pub use Rattle.std.specs.Option.{option_copied, option_to_list}
pub use Rattle.std.specs.Prelude.{None, Option, Some, T, if◌then◌else◌, is_some, nat_le, not, ◌&&◌, ◌||◌}
