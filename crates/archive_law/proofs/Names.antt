-- The names that the proofs of this crate cite, passed on from one place. Declares nothing.
pub use Rattle.archive_law.specs.Archives.{EverStood, IsArchive, IsPast, WasDecided, archive, log_after, log_there, volumes_left, volumes_with}
pub use Rattle.archive_law.specs.AsOf.{TellsMap, first_of, idle_run, value_in}
pub use Rattle.archive_law.specs.Audits.{HoldsLast, ListsAll, Rises}
pub use Rattle.archive_store.specs.Joined.{given_up, is_floor, is_new, joined, later}
unfoldable pub use Rattle.archive_store.specs.Joined.{all_firsts, firsts, has_start, holder_of, last_log, met_after}
pub use Rattle.archive_store.specs.Latest.{last_below}
pub use Rattle.archive_store.specs.Opens.{first_open}
unfoldable pub use Rattle.archive_store.specs.Opens.{first_among}
pub use Rattle.commit_watch.specs.Folds.{advanced, and_then, fresh, is_retired, is_under, moved_to, unless_retired, version_of}
unfoldable pub use Rattle.commit_watch.specs.Folds.{moved_over}
pub use Rattle.commit_watch.specs.Lists.{cursor_of, total_of}
pub use Rattle.commit_watch.specs.declared.faults.WatchFault.{WatchFault}
pub use Rattle.commit_watch.specs.declared.moved.Moved.{Moved}
pub use Rattle.commit_watch.specs.declared.versions.Version.{Version}
pub use Rattle.effect_form.specs.declared.effects.Effect.{Effect}
pub use Rattle.message_form.specs.Posts.{Post}
pub use Rattle.object_history.proofs.BoolLemmas.{and-both, and-left, and-right, not-false, not-true}
pub use Rattle.object_history.proofs.ObjectLemmas.{eq-from, same_object-is, same_object-of}
pub use Rattle.object_history.proofs.ScanLemmas.{Standing, puts-below, same-scan, settled-kept, standing, stands-has}
unfoldable pub use Rattle.object_history.specs.Answers.{some_put}
pub use Rattle.object_history.specs.History.{Seen, alive, is_alive, is_committed, is_settled, or_else, top}
unfoldable pub use Rattle.object_history.specs.History.{floor_of, pick, scan, settle_of, version_count}
unfoldable pub use Rattle.object_history.specs.Objects.{same_object}
pub use Rattle.object_history.specs.Settled.{is_blocked, settled_versions}
unfoldable pub use Rattle.object_history.specs.Settled.{insert, listed}
pub use Rattle.object_history.specs.Views.{Distinct, Fits, Starts, value_of}
pub use Rattle.object_history.specs.declared.marks.Mark.{Mark}
pub use Rattle.object_history.specs.declared.marks.Mark.TheVariants.{Floor, Put, Settle}
pub use Rattle.object_retirement.proofs.ChainLemmas.{chain-distinct, chain-given, put-on-floor, some-given}
pub use Rattle.object_retirement.proofs.ForwardLemmas.{decide-forwarded, forwarded-has, known-carried}
pub use Rattle.object_retirement.proofs.RetiredLemmas.{one-value, same-found, same-values, starts-has}
pub use Rattle.object_retirement.specs.Forward.{MayRetire, forward, forwarded}
pub use Rattle.object_retirement.specs.Older.{Gone}
pub use Rattle.plan_form.specs.PlanTexts.{CanRun}
pub use Rattle.plan_form.specs.declared.plans.Plan.{Plan}
pub use Rattle.pseudo_time.proofs.ListLemmas.{every-has, every-map, every-reverse, has-either, has-left, has-reverse, has-right}
pub use Rattle.pseudo_time.proofs.OrderLemmas.{lt-asymmetric, lt-irreflexive, lt-own, lt-split, lt-stamps, lt-steps, lt-total, lt-trans, same_time-is, same_time-of}
pub use Rattle.pseudo_time.specs.Lists.{Every, Has}
pub use Rattle.pseudo_time.specs.Nodes.{repository, same_node}
pub use Rattle.pseudo_time.specs.Order.{stamp_lt}
unfoldable pub use Rattle.pseudo_time.specs.Order.{lt, same_stamp, same_time}
pub use Rattle.pseudo_time.specs.StampParts.{StampParts}
pub use Rattle.pseudo_time.specs.TimeParts.{TimeParts}
pub use Rattle.pseudo_time.specs.declared.decisions.Decision.{Decision}
pub use Rattle.pseudo_time.specs.declared.nodes.NodeId.{NodeId}
pub use Rattle.repository_laws.proofs.Logs.{decide-home, decided-once, learn-home, put-logged}
pub use Rattle.repository_laws.specs.Facts.{FitsLog, RestsOn}
pub use Rattle.repository_log.specs.Logs.{is_commit, known, marks}
pub use Rattle.serial_law.proofs.Growths.{each-has, has-map, map-has}
pub use Rattle.serial_law.proofs.LogLemmas.{SettledBy, marks-in, put-marks, settle-marks}
pub use Rattle.serial_law.proofs.OldChains.{marks-append, some-history}
pub use Rattle.serial_law.proofs.WholeFacts.{its-all, its-chain, put-asked}
pub use Rattle.serial_law.specs.Earlier.{AreEarlier, AreOfLanguage, Earlier, TickedBy, WereLeftOrRetired, logs_left, replaced, sent_earlier}
pub use Rattle.serial_law.specs.Earlier.Earlier.{Retiring, Running}
pub use Rattle.serial_law.specs.Facts.{RunFacts, Said}
pub use Rattle.serial_law.specs.NodeRules.{node_facts}
pub use Rattle.serial_law.specs.Refines.{OlderFacts, logs_at}
pub use Rattle.serial_law.specs.Wholes.{whole_log, whole_run}
pub use Rattle.serial_model.specs.Questions.{Ends, Tree}
pub use Rattle.std.proofs.Common.{Bool, List, None, Option, Some, [], ap, append_assoc, arith, false, filter, if◌then◌else◌, inl, inr, is_some, map, nat_le, nat_lt, not, refl, reverse, slice_get, subst, suc, sym, take, true, zero, ℕ, ◌&&◌, ◌++◌, ◌+◌, ◌<◌, ◌==◌, ◌||◌, ◌∙◌, ◌∷◌, ◌≡◌, ◌≢◌, ◌≤◌, ◌⊎◌}
pub use Rattle.std.proofs.lemmas.Bool.{false≢true, le-leb, leb-true, or_cases, or_left, or_right, true≢false}
pub use Rattle.std.proofs.lemmas.List.{map-append, reverse-append, reverse-reverse}
pub use Rattle.std.specs.Prelude.{Err, Ok, Result, pos, ℤ}
pub use Rattle.stream_port.specs.declared.fates.Asked.{Asked}
pub use Rattle.value_form.specs.declared.objects.ObjectId.{ObjectId}
pub use Rattle.value_form.specs.declared.values.Value.{Value}
pub use Rattle.value_form.specs.declared.values.Value.TheVariants.{Nothing, Number}
pub use Rattle.world_core.specs.Deeds.{RunLogs, Try, before, committed, in_run, log_of, marks_at}
pub use Rattle.world_core.specs.Legal.{Legal, base_of, in_plan, is_within, most_of}
unfoldable pub use Rattle.world_core.specs.Legal.{Meets}
pub use Rattle.world_core.specs.Pasts.{Call, IsCall, OpenedWith, alike, log_left, own_reading}
pub use Rattle.world_core.specs.Readings.{IsLegal, gated_log}
pub use Rattle.world_core.specs.Walks.{Base, Life, opened_log, sent_by, walk}
unfoldable pub use Rattle.world_core.specs.Walks.{walk_from}
pub use Rattle.world_core.specs.declared.traces.Trace.{Trace}
