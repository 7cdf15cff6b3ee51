-- The names that the proofs of this crate cite, passed on from one place. Declares nothing.
pub use Rattle.broker_core.specs.Book.{Act, Book, Try, close, enter, find, finish, front, gain, if_open, last_try, new_try, on_act, on_front, on_try, open_front, open_of, open_try, time_of, tries, tries_of}
unfoldable pub use Rattle.broker_core.specs.Book.{book}
pub use Rattle.broker_core.specs.Fits.{another, calls_again, has_outcome, is_none, next_clock, outcome_by, shown_to, stop_of}
unfoldable pub use Rattle.broker_core.specs.Fits.{keep}
pub use Rattle.broker_core.specs.Owed.{after_act, after_tries, all_over, by_clock, by_stage, due, owed, start, try_or_spent}
pub use Rattle.broker_core.specs.Rows.{Answered, Begun, Decided, News, Nothing_new, Over_there, Refusal, decided_commit, decided_early, ends, news, row, when}
pub use Rattle.broker_core.specs.Sound.{OfAct, Started}
pub use Rattle.broker_core.specs.Stages.{Asking, Closing, Finishing, Idle, Opening, Refused, Stage, Stopping, by_last, by_stop, is_asking, is_closed, is_finished, no_answer, nothing_heard, of_open, stage, stage_of, standing}
pub use Rattle.broker_core.specs.Tasks.{Scripted, Task, task_of, tasks}
pub use Rattle.broker_core.specs.Tests.{is_stamp, is_time}
pub use Rattle.broker_core.specs.Turns.{Desk, desk_at, desk_turn, fuel, hears, note_if, reply, say, state}
unfoldable pub use Rattle.broker_core.specs.Turns.{settle_up}
pub use Rattle.broker_core.specs.Heard.{Heard}
pub use Rattle.broker_core.specs.declared.replies.Reply.{Reply}
pub use Rattle.broker_core.specs.declared.replies.Reply.TheVariants.{Adds, Hears, Ignored}
pub use Rattle.broker_laws.proofs.BookSteps.{AllDecided, BookSound, HasSettled, HasStarted, StageSound, Trail, enter-sound, last-among, open-among, stage-sound}
pub use Rattle.broker_laws.proofs.BookTurns.{DeskSound, OutSound, ReplySound, Tells, go-says, go-sound, go-stands, heard-says, owed-allowed, reply-sounds, settle-outs, standing-sound, stands-to, state-note, take-sound, take-stands}
pub use Rattle.broker_laws.proofs.Desks.{Good, OwedOk, PostOk, ReplyOk, StageOk, Stops, desk-ok, last-first, news-came, open-first, owed-ok, row-ok, stage-ok, standing-ok}
pub use Rattle.broker_laws.proofs.Found.{each-found, kin, one-request, planned}
pub use Rattle.broker_laws.proofs.Kept.{kept, started}
pub use Rattle.broker_laws.proofs.Moves.{at-open, clocks, grown, if-open, later-kept, post-grown}
pub use Rattle.broker_laws.proofs.Tries.{played, proven}
pub use Rattle.broker_laws.proofs.TurnLemmas.{go-rests, turn-added, turn-rests}
pub use Rattle.broker_laws.specs.Fits.{EndFits, EndsBy, FitsBook, FitsLog, IsReady, IsTidy, MayTry}
pub use Rattle.broker_laws.specs.Posts.{AreKinds, Clocks, EndCame, HasCome, HaveCauses, IsAskOf, IsBelow, IsFitting, IsLater, IsPlanned, IsPlayed, IsProven, PostHolds, at}
pub use Rattle.broker_laws.specs.Waits.{older}
pub use Rattle.broker_laws.specs.Works.{IsRested, TurnHolds}
pub use Rattle.commit_record.specs.declared.states.RecordState.{RecordState}
pub use Rattle.complete_law.specs.AtRest.{AtRest, DecidedAt, is_done, read_to, standing_at}
pub use Rattle.complete_law.specs.Calm.{AllDone, AskAtMost, AsksAtMost, CalmPlace, CalmRun, HasOutcome, IsIdleAt, IsOver, IsPlain, IsRefusal, IsUnstopped, MayStop, WasRefused, book_at, filled_by, log_at, most_effects, most_filled, most_messages, most_pages, sent_at, tasks_at, tries_in, world_at}
pub use Rattle.effect_form.specs.declared.effects.Effect.{Effect}
pub use Rattle.effect_form.specs.declared.outcomes.Outcome.{Outcome}
pub use Rattle.message_core.proofs.NodeLemmas.{same_is, same_node-refl}
pub use Rattle.message_core.specs.Tallies.{count}
pub use Rattle.message_form.specs.Growth.{Grew}
pub use Rattle.message_form.specs.Posts.{Post, WasSent, post, posts}
pub use Rattle.message_form.specs.declared.messages.Message.{Message}
pub use Rattle.message_form.specs.declared.turns.Out.{Out}
pub use Rattle.object_history.proofs.BoolLemmas.{and-both, and-left, and-right}
pub use Rattle.object_history.proofs.ObjectLemmas.{eq-from, same_object-of}
pub use Rattle.object_history.specs.Answers.{read_step, stands_written, write_step}
unfoldable pub use Rattle.object_history.specs.Answers.{has_put}
pub use Rattle.object_history.specs.History.{alive, floor_of, is_alive, is_settled, or_else}
unfoldable pub use Rattle.object_history.specs.History.{settle_of}
pub use Rattle.object_history.specs.declared.steps.ReadStep.{ReadStep}
pub use Rattle.object_history.specs.declared.steps.WriteStep.{WriteStep}
pub use Rattle.plan_form.specs.PlanTexts.{EachAct, CanRun}
pub use Rattle.plan_form.specs.Plans.{InRange}
pub use Rattle.plan_form.specs.declared.plans.Plan.{Plan}
pub use Rattle.pseudo_time.proofs.ListLemmas.{every-append, every-has, every-left, every-map, every-right, has-either, has-left, has-reverse, has-right}
pub use Rattle.pseudo_time.proofs.OrderLemmas.{lt-asymmetric, lt-irreflexive, lt-own, lt-stamps, lt-steps, same_stamp-is, same_stamp-self, same_time-is, same_time-of}
pub use Rattle.pseudo_time.specs.Lists.{Every, Has}
pub use Rattle.pseudo_time.specs.Nodes.{broker, is_broker, is_repository, repository, same_node}
pub use Rattle.pseudo_time.specs.Order.{lt, same_stamp, same_time}
unfoldable pub use Rattle.pseudo_time.specs.Order.{stamp_lt}
pub use Rattle.pseudo_time.specs.StampParts.{StampParts}
pub use Rattle.pseudo_time.specs.TimeParts.{TimeParts, time_cmp}
pub use Rattle.pseudo_time.specs.declared.decisions.Decision.{Decision}
pub use Rattle.pseudo_time.specs.declared.nodes.NodeId.{NodeId}
pub use Rattle.pseudo_time.specs.declared.nodes.NodeKind.{NodeKind}
pub use Rattle.repository_core.specs.Hands.{Hand, Mind, asker_cmp, note, now, send}
pub use Rattle.repository_core.specs.Rows.{accepts, ask_as, ask_for, begin_as, close_as, hold, is_broker_of, learn_as, read_as, read_known, reread, tells, unhold, waits_for, write_as}
unfoldable pub use Rattle.repository_core.specs.Rows.{on_ask, on_begin, on_close, on_learn, on_message, on_read, on_write, release, tell_askers}
pub use Rattle.repository_core.specs.Turns.{hand_at, mind_of}
pub use Rattle.repository_core.specs.Asker.{Asker}
pub use Rattle.repository_core.specs.HeldRead.{HeldRead}
pub use Rattle.repository_laws.proofs.AnyTurns.{begun-fine, on-learn-fine, take-fine}
pub use Rattle.repository_laws.proofs.AskServices.{ask-serves, has-record}
pub use Rattle.repository_laws.proofs.AskerSteps.{Askers, on-learn-askers, on-message-askers}
pub use Rattle.repository_laws.proofs.HeldLemmas.{filter-has, waits-remove}
pub use Rattle.repository_laws.proofs.Logs.{begin-home, decide-cause, decide-home, decide-settles, decided-stands, grown-floor, grown-floors, put-logged, settled-log, tidy-through}
pub use Rattle.repository_laws.proofs.ReadSteps.{Answers, Keeps, Serves, on-message-serves, read-waits}
pub use Rattle.repository_laws.proofs.Turns.{broker-is}
pub use Rattle.repository_laws.specs.Facts.{HasBegun, HeldHolds, ReadSent, WriteSent}
pub use Rattle.repository_laws.specs.Waits.{Waits, ask_of, tell_of}
pub use Rattle.repository_log.specs.Logs.{is_commit, known, knows, marks, record_of}
pub use Rattle.script_meaning.specs.Meaning.{Answer, Asks, Got, Over, Request, Stop, Stored, ToRead, ToWrite}
pub use Rattle.serial_law.proofs.Attempts.{found-in, try-home}
pub use Rattle.serial_law.proofs.Growths.{each-has, every-at, every-filter, every-of, has-at, has-filter, has-map, map-has, none-has, numbered-has}
pub use Rattle.serial_law.proofs.Inside.{Inside, inside-after, inside-asks}
pub use Rattle.serial_law.proofs.LogLemmas.{Known, SettledBy, knows-has, settle-marks}
pub use Rattle.serial_law.proofs.NodeLaws.{node-laws, past-laws}
pub use Rattle.serial_law.proofs.Openings.{facts-of, left-nothing, legal-facts, opens, ready-start}
pub use Rattle.serial_law.proofs.Ranges.{in-range, within}
pub use Rattle.serial_law.proofs.Steps.{sent-gate, step-known, unknown-stays, walk-known}
pub use Rattle.serial_law.specs.Facts.{asked_of, request_at}
pub use Rattle.serial_law.specs.NodeRules.{kind_post, node_facts, node_turns}
pub use Rattle.serial_law.specs.Refines.{LogFacts, Refines, Ticked, logs_at, soft_of}
pub use Rattle.serial_law.specs.Soft.{NodeOk, SentOk, Soft, SoftNode, around, happened}
pub use Rattle.serial_model.specs.Questions.{Ends, Onward, Reads, Says, Tree, Writes, after, all_asked, asked, asked_if_room, asked_turns, asked_with, denote, stop}
pub use Rattle.std.proofs.Common.{Bool, Err, List, None, Ok, Option, Result, Some, [], ap, append-nil, append_assoc, arith, cond, false, if◌then◌else◌, inl, inr, is_some, length, map, max, min, nat_le, nat_lt, not, refl, reverse, slice_get, subst, suc, sym, true, zero, ℕ, ◌&&◌, ◌*◌, ◌++◌, ◌+◌, ◌<◌, ◌==◌, ◌||◌, ◌∙◌, ◌∷◌, ◌≡◌, ◌≢◌, ◌≤◌, ◌⊎◌}
pub use Rattle.std.proofs.lemmas.Bool.{and_from, eq-eqb, false≢true, ltb-false, ltb-true, or_left, or_right, true≢false}
pub use Rattle.std.proofs.lemmas.Grind.{common_steps}
pub use Rattle.std.proofs.lemmas.List.{length-append, reverse-append, reverse-reverse}
pub use Rattle.std.specs.BTreeMap.{insert_entry, is_at}
pub use Rattle.std.specs.List.{filter}
pub use Rattle.std.specs.Ordering.{is_lt, match_ordering, nat_cmp, ordering_then}
pub use Rattle.std.specs.declared.cmp.Ordering.{Ordering}
pub use Rattle.std.specs.declared.cmp.Ordering.TheVariants.{Equal, Greater, Less}
pub use Rattle.stream_port.specs.Fates.{copies_of}
pub use Rattle.stream_port.specs.declared.fates.Fate.{Fate}
pub use Rattle.value_form.specs.declared.acts.ActSpec.{ActSpec}
pub use Rattle.value_form.specs.declared.endings.Ending.{Ending}
pub use Rattle.value_form.specs.declared.objects.ObjectId.{ObjectId}
pub use Rattle.value_form.specs.declared.values.Value.{Value}
pub use Rattle.world_core.specs.Legal.{JustNodes, MayGate, MayGo, MayHear, MayLearn, MayTake, Rule, base_of, fates_of, times_taken}
unfoldable pub use Rattle.world_core.specs.Legal.{Meets}
pub use Rattle.world_core.specs.Nodes.{acts_of, leaves}
unfoldable pub use Rattle.world_core.specs.Nodes.{gives}
pub use Rattle.world_core.specs.Nodes.Input.{Going, Hearing, Learning, Taking}
pub use Rattle.world_core.specs.Walks.{Base, Flags, Life, Sending, World, after_input, all_effects, flagged, gated_life, learned, leaving, lives_on, names, numbered, opened_life, opened_log, sent_by, start_world, step, took, went}
unfoldable pub use Rattle.world_core.specs.Walks.{walk_from}
pub use Rattle.world_core.specs.declared.entries.Entry.{Entry}
