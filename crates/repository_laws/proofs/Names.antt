-- The names that the proofs of this crate cite, passed on from one place. Declares nothing.
pub use Rattle.commit_record.specs.declared.states.RecordState.{RecordState}
pub use Rattle.commit_record.specs.declared.states.RecordState.TheVariants.{Decided, Unknown}
pub use Rattle.effect_form.specs.declared.effects.Effect.{Effect}
pub use Rattle.effect_form.specs.declared.effects.Effect.TheVariants.{Begin, Decide, Learn, Mark, Put, Stretch, Whole}
pub use Rattle.message_form.proofs.GrowthLemmas.{grew_keeps}
pub use Rattle.message_form.specs.Growth.{Grew}
pub use Rattle.message_form.specs.Posts.{Post, WasSent}
pub use Rattle.message_form.specs.declared.messages.Message.{Message}
pub use Rattle.message_form.specs.declared.turns.Out.{Out}
pub use Rattle.object_history.proofs.AnswerLemmas.{again-stands, answer-on-floor, answer-viewed, later-read, later-version, put-stands, read-below}
pub use Rattle.object_history.proofs.BoolLemmas.{and-left, and-right}
pub use Rattle.object_history.proofs.ObjectLemmas.{eq-from, eqb-yes}
pub use Rattle.object_history.proofs.ScanLemmas.{Standing, new-start, settled-kept, standing, stands-has}
pub use Rattle.object_history.specs.Answers.{needs_stretch, read_from, read_seen, read_step, stands_written, write_step}
pub use Rattle.object_history.specs.History.{Seen, alive, is_alive, is_settled, or_else, sees}
unfoldable pub use Rattle.object_history.specs.History.{floor_of, settle_of}
pub use Rattle.object_history.specs.declared.steps.ReadStep.{ReadStep}
pub use Rattle.object_history.specs.declared.steps.ReadStep.TheVariants.{Answer, LaterRead, Wait}
pub use Rattle.object_history.specs.declared.steps.WriteStep.{WriteStep}
pub use Rattle.pseudo_time.proofs.ListLemmas.{every-append, every-has, every-map, has-left, has-right}
pub use Rattle.pseudo_time.proofs.OrderLemmas.{is_equal, same_stamp-is, same_stamp-of, same_stamp-self, stamp_cmp-exact, time_cmp-exact}
pub use Rattle.pseudo_time.specs.Lists.{Every, Has}
pub use Rattle.pseudo_time.specs.Nodes.{broker, is_broker, is_repository, repository}
pub use Rattle.pseudo_time.specs.Order.{lt, same_stamp}
pub use Rattle.pseudo_time.specs.StampParts.{StampParts, stamp_cmp}
pub use Rattle.pseudo_time.specs.TimeParts.{TimeParts, time_cmp}
pub use Rattle.pseudo_time.specs.declared.decisions.Decision.{Decision}
pub use Rattle.pseudo_time.specs.declared.nodes.NodeId.{NodeId}
pub use Rattle.pseudo_time.specs.declared.nodes.NodeKind.{NodeKind}
pub use Rattle.repository_core.proofs.HeldLemmas.{every-filter, every-put, every-remove, put-in}
pub use Rattle.repository_core.specs.Hands.{Hand, Mind, asker_cmp, note, now, send}
pub use Rattle.repository_core.specs.Hearing.{asks, expire_all, expire_as, waited}
unfoldable pub use Rattle.repository_core.specs.Hearing.{ask_again, expire, on_moment}
pub use Rattle.repository_core.specs.Rows.{accepts, ask_as, ask_for, begin_as, close_as, hold, is_broker_of, learn_as, read_as, read_known, reread, row, tells, unhold, waits_for, write_as}
unfoldable pub use Rattle.repository_core.specs.Rows.{on_ask, on_begin, on_close, on_learn, on_message, on_read, on_write, release, tell_askers}
pub use Rattle.repository_core.specs.Turns.{Input, hand_at, hand_turn}
pub use Rattle.repository_core.specs.Turns.Input.{Hearing, Learning, Taking}
pub use Rattle.repository_core.specs.Asker.{Asker}
pub use Rattle.repository_core.specs.HeldRead.{HeldRead}
pub use Rattle.repository_laws.specs.Facts.{FitsLog, HandHolds, HasCome, HeldHolds, IsBacked, IsDecidedAt, IsTidy, IsTimely, Once, PostHolds, ReadSent, RestsOn, WasClosed, WasReadLater, WriteSent}
pub use Rattle.repository_laws.specs.Served.{GetsAnswer, IsAnswer, IsHeld, IsServed}
pub use Rattle.repository_laws.specs.Waits.{AreOf, AreOpen, IsKeptOrTold, IsOf, KeepsReads, Waits, ask_of, tell_of}
pub use Rattle.repository_log.proofs.LogLemmas.{from-begin, from-decided, undecided, unknown-unsettled}
pub use Rattle.repository_log.specs.Expiries.{due}
pub use Rattle.repository_log.specs.Logs.{is_commit, known, marks, record_from, record_of}
unfoldable pub use Rattle.repository_log.specs.Logs.{decision_of, first_begin}
pub use Rattle.std.proofs.Common.{Bool, List, None, Option, Some, [], ap, arith, false, if◌then◌else◌, inl, inr, nat_le, not, refl, subst, sym, true, ℕ, ◌&&◌, ◌++◌, ◌+◌, ◌==◌, ◌||◌, ◌∙◌, ◌∷◌, ◌≡◌, ◌≢◌, ◌≤◌, ◌⊎◌}
pub use Rattle.std.proofs.lemmas.Bool.{eq-eqb, false≢true, true≢false}
pub use Rattle.std.proofs.lemmas.Grind.{common_steps}
pub use Rattle.std.specs.BTreeMap.{insert_entry, is_at}
pub use Rattle.std.specs.BTreeSet.{insert_key}
pub use Rattle.std.specs.List.{filter}
pub use Rattle.std.specs.Map.{remove_entry}
pub use Rattle.std.specs.Ordering.{is_eq, match_ordering, nat_cmp, ordering_then}
pub use Rattle.std.specs.Prelude.{cond}
pub use Rattle.std.specs.declared.cmp.Ordering.{Ordering}
pub use Rattle.std.specs.declared.cmp.Ordering.TheVariants.{Equal, Greater, Less}
pub use Rattle.value_form.specs.declared.objects.ObjectId.{ObjectId}
pub use Rattle.value_form.specs.declared.values.Value.{Value}
