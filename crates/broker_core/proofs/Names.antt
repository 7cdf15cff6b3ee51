-- The names that the proofs of this crate cite, passed on from one place. Declares nothing.
pub use Rattle.broker_core.specs.Brokers.{FirstFits, Gives, NoRun, Opens, follows, is_done, turn_of}
pub use Rattle.broker_core.specs.Inputs.{MayBegin, effects_from, fault_of, ledger_from, listed, over_by, phase_in}
pub use Rattle.broker_core.specs.Owed.{after_act, after_tries, by_clock, by_stage, done, due, owed, start, try_or_spent}
pub use Rattle.broker_core.specs.Parts.{BrokerParts, IsBroker, IsLedTo, book_of, opened_broker, parts_of}
pub use Rattle.broker_core.specs.Phases.{after_tries_at, by_clock_at, by_phase, commit_answered, decided_of, deciding_row, decision_row, due_at, early_answered, ended_row, ends_at, finished_for, is_quiet, opening_row, owed_at, phase_at, phase_by_last, phase_by_open, phase_by_stop, phase_of, reading_row, reply_at, reply_by, reply_for, shown_at, standing_at, standing_by, standing_for, start_at, try_or_spent_at, writing_row}
pub use Rattle.broker_core.specs.Ranges.{AreInRange, FirstInRange, GivenInRange, HasStamp, IsHeard, Ranged}
unfoldable pub use Rattle.broker_core.specs.Readings.{reading}
pub use Rattle.broker_core.specs.Rows.{Answered, Begun, Decided, News, Nothing_new, Over_there, Refusal, decided_commit, decided_early, ends, news, row, when}
pub use Rattle.broker_core.specs.Settling.{Settled, most_steps, owed_now, settle_on}
unfoldable pub use Rattle.broker_core.specs.Settling.{settled}
pub use Rattle.broker_core.specs.Stages.{Asking, Closing, Finishing, Idle, Opening, Refused, Stage, Stopping, by_last, by_stop, is_asking, is_closed, is_finished, no_answer, stage, stage_of, standing}
pub use Rattle.broker_core.specs.Turns.{Desk, Go, Hear, Input, Take, all_effects, desk_at, desk_turn, fuel, hears, note, note_if, reply, say, send, state}
unfoldable pub use Rattle.broker_core.specs.Turns.{settle_up}
pub use Rattle.broker_core.specs.declared.phases.Phase.{Phase}
pub use Rattle.broker_core.specs.declared.replies.Reply.{Reply}
pub use Rattle.broker_core.specs.declared.replies.Reply.TheVariants.{Adds, Hears, Ignored}
pub use Rattle.broker_ledger.specs.ActSpec.{ActSpec}
pub use Rattle.broker_ledger.specs.Asked.{AreAsked, IsAnswerTo}
pub use Rattle.broker_ledger.specs.Book.{Act, Book, Try, enter, front, if_open, last_try, open_front, open_of, open_try, time_of, tries_of}
unfoldable pub use Rattle.broker_ledger.specs.Book.{book}
pub use Rattle.broker_ledger.specs.Decision.{Decision}
pub use Rattle.broker_ledger.specs.Effect.{Effect}
pub use Rattle.broker_ledger.specs.Fits.{act_effect, add_if, all_over, another, calls_again, counts, first_some, fits, fits_acked, fits_end, fits_got, fits_outcome, fits_spent, fits_try, has_ended, is_none, may_follow, next_clock, plan_fault, reads_now, rests, resume_fault, shown_to, stop_of, unfit_act, writes_now}
unfoldable pub use Rattle.broker_ledger.specs.Fits.{keep, other_plan}
pub use Rattle.broker_ledger.specs.Heards.{closed_at, closed_in, is_settled, nothing_heard}
pub use Rattle.broker_ledger.specs.Ledgers.{AreBrokerActs, AreNotes, IsAskedFor, IsBrokerAct, LedgerParts, MayAdd, answers_noted, kept}
pub use Rattle.broker_ledger.specs.Lists.{Every, Has}
pub use Rattle.broker_ledger.specs.Meaning.{Asks, Over, Stop, ToRead, ToWrite}
pub use Rattle.broker_ledger.specs.Mirror.{At, Block, Fixed, Spot, block}
pub use Rattle.broker_ledger.specs.Notes.{Shows, act_at, another_at, answered_in, answers_given, calls_on, changed, end_noted, fits_at, fits_step_at, fits_try_at, home_of, index_of, last_of, most_of, noted, notes_of, open_last, over_at, over_behind, passed, run_begun, shown_by, spent_in, stop_at, time_at, timeout_of, tree_of, tries_in, unended}
pub use Rattle.broker_ledger.specs.ObjectId.{ObjectId}
pub use Rattle.broker_ledger.specs.Order.{same_stamp, same_time}
pub use Rattle.broker_ledger.specs.Outcome.{Outcome}
pub use Rattle.broker_ledger.specs.Questions.{Tree, denote, stop}
pub use Rattle.broker_ledger.specs.Sound.{OfAct, Sound, Started}
pub use Rattle.broker_ledger.specs.StampParts.{IsStamp, StampParts}
pub use Rattle.broker_ledger.specs.TakenUp.{added, fits_now, fresh_ledger, led, logged, other_at}
pub use Rattle.broker_ledger.specs.Tasks.{Scripted, Task, task_of, task_with, tasks}
pub use Rattle.broker_ledger.specs.Tests.{is_stamp, is_task, is_time, same_task}
pub use Rattle.broker_ledger.specs.TimeParts.{IsTime, TimeParts}
pub use Rattle.broker_ledger.specs.Value.{Value}
pub use Rattle.broker_ledger.specs.declared.givens.Given.{Given}
pub use Rattle.broker_ledger.specs.declared.heards.Heard.{Heard}
pub use Rattle.broker_ledger.specs.declared.notes.Last.{Last}
pub use Rattle.broker_ledger.specs.declared.notes.Notes.{Notes}
pub use Rattle.broker_ledger.specs.declared.resume_faults.ResumeFault.{ResumeFault}
pub use Rattle.message_form.specs.Ranges.{AreEffects, AreOuts, IsEffect}
pub use Rattle.message_form.specs.declared.messages.Message.{Message}
pub use Rattle.message_form.specs.declared.turns.Out.{Out}
pub use Rattle.message_form.specs.declared.turns.Turn.{Turn}
pub use Rattle.std.proofs.Common.{Bool, Err, List, None, Option, Some, [], ap, arith, cond, false, if◌then◌else◌, inl, inr, length, max, min, nat_lt, refl, reverse, subst, suc, sym, take, true, zero, ℕ, ◌&&◌, ◌*◌, ◌++◌, ◌+◌, ◌-◌, ◌<◌, ◌==◌, ◌^◌, ◌||◌, ◌∙◌, ◌∷◌, ◌≡◌, ◌≢◌, ◌≤◌}
pub use Rattle.std.proofs.lemmas.Bool.{eq-eqb, eqb-true, false≢true}
pub use Rattle.std.proofs.lemmas.Grind.{common_steps}
pub use Rattle.std.proofs.lemmas.List.{append-nil, length-map, length-take, length-take-le, reverse-append, reverse-reverse}
pub use Rattle.std.proofs.lemmas.Option.{slice_get-map, slice_get_cases, slice_get_within}
pub use Rattle.std.specs.Cmp.Lexicographic.{bytes_decides, pointwise, same_text}
pub use Rattle.std.specs.List.{slice_get}
pub use Rattle.std.specs.Option.{option_copied, option_map}
