-- The names that the proofs of this crate cite, passed on from one place. Declares nothing.
pub use Rattle.broker_core.specs.Book.{Act, Book, Try, close, enter, find, finish, front, gain, if_open, last_try, new_try, on_act, on_front, on_try, open_front, open_of, open_try, time_of, tries, tries_of}
unfoldable pub use Rattle.broker_core.specs.Book.{book}
pub use Rattle.broker_core.specs.Fits.{act_effect, add_if, another, calls_again, counts, first_some, fits, fits_acked, fits_end, fits_got, fits_outcome, fits_spent, fits_try, has_ended, has_outcome, is_none, may_follow, next_clock, outcome_by, plan_fault, reads_now, rests, resume_fault, shown_to, stop_of, unfit_act, writes_now}
unfoldable pub use Rattle.broker_core.specs.Fits.{keep, other_plan}
pub use Rattle.broker_core.specs.Owed.{after_act, after_tries, all_over, by_clock, by_stage, done, due, owed, start, try_or_spent}
pub use Rattle.broker_core.specs.Rows.{Answered, Begun, Decided, News, Over_there, Refusal, decided_commit, decided_early, ends, news, row, when}
pub use Rattle.broker_core.specs.Sound.{OfAct, Started}
pub use Rattle.broker_core.specs.Stages.{Asking, Closing, Finishing, Idle, Opening, Refused, Stage, Stopping, by_stop, is_asking, is_closed, is_finished, is_settled, no_answer, nothing_heard, of_open, request, stage, stage_of, standing}
pub use Rattle.broker_core.specs.Tasks.{Task, task_with}
pub use Rattle.broker_core.specs.Tests.{is_stamp, is_task, is_time, same_bytes, same_task}
pub use Rattle.broker_core.specs.Turns.{Desk, Go, Hear, Input, Take, all_effects, desk_turn, fuel, hears, note, note_if, reply, say, send, state}
unfoldable pub use Rattle.broker_core.specs.Turns.{settle_up}
pub use Rattle.broker_core.specs.Heard.{Heard}
pub use Rattle.broker_core.specs.declared.replies.Reply.{Reply}
pub use Rattle.broker_core.specs.declared.replies.Reply.TheVariants.{Adds, Hears, Ignored}
pub use Rattle.broker_laws.specs.Fits.{EndFits, EndsBy, FitsBook, FitsLog, IsAsked, IsReady, IsTidy, MayTry, OpenAt, may_start}
pub use Rattle.broker_laws.specs.Posts.{AnswerCame, AreKinds, Clocks, Distinct, EndCame, HasCome, HaveCauses, IsAskOf, IsBelow, IsCommitOf, IsFitting, IsKnown, IsLater, IsPlanned, IsPlayed, IsProven, IsWithinLimits, MayCommit, OfOpen, PostHolds, RestsOn, at}
pub use Rattle.broker_laws.specs.Waits.{BegunCame, DecidedCame, IsCalm, IsNoEnded, OutSound, Waits, newest, older}
pub use Rattle.broker_laws.specs.Works.{Added, AlwaysReady, AsksNobody, IsRested, MayInput, TurnHolds, afresh, crash, gate, joined}
pub use Rattle.effect_form.specs.declared.effects.Effect.{Effect}
pub use Rattle.effect_form.specs.declared.outcomes.Outcome.{Outcome}
pub use Rattle.message_form.specs.Growth.{Grew}
pub use Rattle.message_form.specs.Posts.{Post}
pub use Rattle.message_form.specs.declared.messages.Message.{Message}
pub use Rattle.message_form.specs.declared.turns.Out.{Out}
pub use Rattle.pseudo_time.proofs.ListLemmas.{every-append, every-has, every-map, has-left, has-right}
pub use Rattle.pseudo_time.proofs.OrderLemmas.{same_stamp-is, same_stamp-self, same_time-is, same_time-of}
pub use Rattle.pseudo_time.specs.Lists.{Every, Has}
pub use Rattle.pseudo_time.specs.Nodes.{broker, repository}
pub use Rattle.pseudo_time.specs.Order.{same_stamp, same_time}
pub use Rattle.pseudo_time.specs.StampParts.{StampParts}
pub use Rattle.pseudo_time.specs.TimeParts.{TimeParts}
pub use Rattle.pseudo_time.specs.declared.decisions.Decision.{Decision}
pub use Rattle.pseudo_time.specs.declared.nodes.NodeId.{NodeId}
pub use Rattle.script_meaning.specs.Meaning.{Answer, Asks, Got, Over, Request, Stop, Stored, ToRead, ToWrite}
pub use Rattle.serial_model.specs.Questions.{Tree, stop}
pub use Rattle.std.proofs.Common.{Bool, List, None, Option, Some, [], ap, append-nil, append_assoc, arith, drop, false, if◌then◌else◌, inl, inr, length, length-append, max, nat_lt, refl, subst, suc, sym, take, true, zero, ℕ, ◌&&◌, ◌*◌, ◌++◌, ◌+◌, ◌-◌, ◌<◌, ◌==◌, ◌||◌, ◌∙◌, ◌∷◌, ◌≡◌, ◌≤◌, ◌⊎◌}
pub use Rattle.std.proofs.lemmas.Bool.{eq-eqb, eqb-true, false≢true, lt-ltb, ltb-true, true≢false}
pub use Rattle.std.proofs.lemmas.Grind.{common_steps}
pub use Rattle.std.proofs.lemmas.Option.{slice_get_within}
pub use Rattle.std.specs.List.{slice_get}
