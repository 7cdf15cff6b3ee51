-- The names that the proofs of this crate cite, passed on from one place. Declares nothing.
pub use Rattle.broker_core.specs.Book.{Act, Book, tries, tries_of}
unfoldable pub use Rattle.broker_core.specs.Book.{book}
pub use Rattle.broker_core.specs.Counted.{counted, own_tries}
pub use Rattle.broker_core.specs.Fits.{keep, stop_of}
pub use Rattle.broker_core.specs.Readings.{reading}
pub use Rattle.broker_core.specs.Tasks.{Scripted, Task, task_of, tasks}
pub use Rattle.broker_laws.proofs.Found.{each-found, one-request, planned}
pub use Rattle.broker_laws.proofs.Moves.{clocks, distinct}
pub use Rattle.broker_laws.proofs.Tries.{played, proven}
pub use Rattle.broker_laws.specs.Fits.{FitsBook, IsReading, IsTidy, IsWriting, MayTry}
pub use Rattle.broker_laws.specs.Posts.{IsAskOf, IsBelow, IsCommitOf, IsPlanned, IsPlayed, IsProven, MayCommit, OfOpen}
pub use Rattle.effect_form.specs.declared.effects.Effect.{Effect}
pub use Rattle.effect_form.specs.declared.outcomes.Outcome.{Outcome}
pub use Rattle.message_form.proofs.GrowthLemmas.{each_below}
pub use Rattle.message_form.specs.Posts.{Post, WasSent}
pub use Rattle.message_form.specs.declared.messages.Message.{Message}
pub use Rattle.object_history.proofs.BoolLemmas.{and-both, and-left, and-right, not-false, not-true}
pub use Rattle.object_history.proofs.ObjectLemmas.{same_object-is, same_object-of}
pub use Rattle.object_history.proofs.StableLemmas.{scan-passes, starts-all}
pub use Rattle.object_history.proofs.TestLemmas.{two-tests}
pub use Rattle.object_history.proofs.ViewLemmas.{top-all}
pub use Rattle.object_history.proofs.Words.{AtMost, Passes}
pub use Rattle.object_history.specs.Answers.{read_step, write_step}
pub use Rattle.object_history.specs.History.{Seen, alive, is_alive, or_else}
unfoldable pub use Rattle.object_history.specs.History.{floor_of, pick, scan, settle_of, version_count}
unfoldable pub use Rattle.object_history.specs.Objects.{same_object}
pub use Rattle.object_history.specs.Views.{Distinct, Firm, IsOnFloor, IsVersion, Starts, Viewed, shows, value_of, views}
pub use Rattle.object_history.specs.declared.marks.Mark.{Mark}
pub use Rattle.object_history.specs.declared.marks.Mark.TheVariants.{Put, Stretch}
pub use Rattle.object_history.specs.declared.steps.WriteStep.{WriteStep}
pub use Rattle.object_retirement.proofs.ChainLemmas.{chain-given, chain-view, last-stays, some-given}
pub use Rattle.object_retirement.specs.Forward.{MayRetire, forward, forwarded}
pub use Rattle.object_retirement.specs.Older.{Gone}
pub use Rattle.object_retirement.specs.Retired.{Same}
pub use Rattle.object_retirement.specs.Stood.{all_stood}
unfoldable pub use Rattle.object_retirement.specs.Stood.{has_start, with_old}
pub use Rattle.plan_form.specs.PlanTexts.{EachAct, CanRun}
pub use Rattle.plan_form.specs.Plans.{InRange}
pub use Rattle.plan_form.specs.declared.plans.Plan.{Plan}
pub use Rattle.pseudo_time.proofs.ListLemmas.{every-append, every-has, every-left, has-either, has-left, has-right}
pub use Rattle.pseudo_time.proofs.OrderLemmas.{between, is_less, lt-asymmetric, lt-irreflexive, lt-own, lt-split, lt-stamps, lt-steps, lt-total, lt-trans, same_stamp-is, same_stamp-of, same_stamp-self, stamp_cmp-total}
pub use Rattle.pseudo_time.specs.Lists.{Every, Has}
pub use Rattle.pseudo_time.specs.Nodes.{broker, repository, same_node}
unfoldable pub use Rattle.pseudo_time.specs.Order.{lt, same_stamp, same_time, stamp_lt}
pub use Rattle.pseudo_time.specs.StampParts.{StampParts, stamp_cmp}
pub use Rattle.pseudo_time.specs.TimeParts.{TimeParts}
pub use Rattle.pseudo_time.specs.declared.decisions.Decision.{Decision}
pub use Rattle.pseudo_time.specs.declared.nodes.NodeId.{NodeId}
pub use Rattle.pseudo_time.specs.declared.nodes.NodeKind.{NodeKind}
pub use Rattle.pseudo_time.specs.declared.nodes.NodeKind.TheVariants.{Broker, Repository}
pub use Rattle.repository_core.specs.Logs.{is_commit, marks}
unfoldable pub use Rattle.repository_core.specs.Logs.{knows}
pub use Rattle.repository_laws.proofs.Logs.{decide-cause, decide-home, decided-once, learn-home, learned-elsewhere, put-logged}
pub use Rattle.repository_laws.specs.Facts.{IsDecidedAt, Once, WriteSent}
pub use Rattle.script_meaning.specs.Meaning.{Answer, Asks, Got, Over, Request, Stop, Stored, ToRead, ToWrite, condition, count, object_at, value}
pub use Rattle.serial_law.specs.Causes.{Causes, Happened, HasReason, HasStood, IsSpent}
pub use Rattle.serial_law.specs.Facts.{RunFacts, Sees, asked_of, asks, at}
pub use Rattle.serial_law.specs.Reasons.{AnsweredBy, HaveReasons, RefusedBy, happened_by}
pub use Rattle.serial_law.specs.Runs.{AnsweredBefore, InSome, Position, RefusedBefore, TickedBefore, attempt, book_tries, happened_before, log_at, olds_at, run_at, run_of, sent_before, whole_at, world_at}
unfoldable pub use Rattle.serial_law.specs.Runs.{run_tries}
pub use Rattle.serial_law.specs.Serial.{HasValue, HoldsAll, HoldsBefore, IsComplete, IsSerial, Serial}
pub use Rattle.serial_law.specs.Wholes.{KeepsPuts, PutsStand, WasGivenUp, whole_log, whole_run, wrote}
unfoldable pub use Rattle.serial_law.specs.Wholes.{with_puts}
pub use Rattle.serial_model.proofs.AnswerLemmas.{talked-stop}
pub use Rattle.serial_model.specs.Questions.{AnswersOf, Ends, IsFrontOf, Onward, Reads, Says, Talked, Tree, Writes, after, all_asked, asked, asked_turns, asked_with, denote, left_after, left_by, stop, talked, talked_alone}
pub use Rattle.std.proofs.Common.{Bool, Err, List, None, Ok, Option, Result, Some, [], ap, append-nil, append_assoc, arith, cond, false, if◌then◌else◌, inl, inr, is_some, length, map, nat_le, nat_lt, negsuc, not, pos, refl, reverse, subst, suc, sym, take, true, zero, ℕ, ◌&&◌, ◌++◌, ◌+◌, ◌<◌, ◌==◌, ◌^◌, ◌||◌, ◌∙◌, ◌∷◌, ◌≡◌, ◌≢◌, ◌≤◌, ◌⊎◌}
pub use Rattle.std.proofs.lemmas.Bool.{eqb-true, false≢true, le-leb, leb-true, lt-ltb, ltb-false, ltb-true, or_cases, or_left, or_right, true≢false}
pub use Rattle.std.proofs.lemmas.List.{append_cancel_right, length-append}
pub use Rattle.std.proofs.lemmas.Option.{same_Some}
pub use Rattle.std.specs.Option.{unwrap_or}
pub use Rattle.std.specs.Ordering.{is_eq, is_lt, ordering_reverse}
pub use Rattle.stream_port.specs.declared.fates.Asked.{Asked}
pub use Rattle.trace_report.specs.Finals.{all_marks, holding, last_put, last_values, marks_to}
pub use Rattle.value_form.specs.Mirror.{At, Block, End, Fixed, If, IfElse, Let, Print, Read, Repeat, Spot, Step, Then, Withdraw, Write, block}
pub use Rattle.value_form.specs.Objects.{Objects, object_cmp, value_at}
pub use Rattle.value_form.specs.declared.acts.ActSpec.{ActSpec}
pub use Rattle.value_form.specs.declared.endings.Ending.{Ending}
pub use Rattle.value_form.specs.declared.objects.ObjectId.{ObjectId}
pub use Rattle.value_form.specs.declared.transcripts.Line.{Line}
pub use Rattle.value_form.specs.declared.values.Value.{Value}
pub use Rattle.value_form.specs.declared.values.Value.TheVariants.{Nothing, Number}
pub use Rattle.world_core.proofs.Answered.{Reason, meets-front, post-answered, read-sent, write-sent}
pub use Rattle.world_core.proofs.OneReading.{own-reading}
pub use Rattle.world_core.proofs.SameWorlds.{Agree, agree-of, legal-same, walk-same}
pub use Rattle.world_core.specs.Answered.{WasAnswered, WasRefused}
pub use Rattle.world_core.specs.Deeds.{RunLogs, Try, Version, after_deed, deed, deed_of, deed_stamps, in_run, log_of, set_all, written}
unfoldable pub use Rattle.world_core.specs.Deeds.{all_deeds, before, committed, finals, find, has_commit, has_learned, lines_written, log_stamps, marks_at, put_in, put_stamps, puts_of, puts_to, some_of, stamp_if, stamp_in, try_stamps}
pub use Rattle.world_core.specs.Legal.{Legal, Meets, base_of, fates_of, in_plan}
pub use Rattle.world_core.specs.Nodes.{acts_of}
pub use Rattle.world_core.specs.Pasts.{Call, OpenedWith, alike, log_left, own_reading}
pub use Rattle.world_core.specs.Readings.{IsLegal, gated_log}
pub use Rattle.world_core.specs.Walks.{Base, World, all_effects, numbered, opened_log, sent_by, start_world, walk}
pub use Rattle.world_core.specs.declared.entries.Entry.{Entry}
pub use Rattle.world_core.specs.declared.traces.Trace.{Trace}
pub use Rattle.world_facts.proofs.AnswerLemmas.{ViewedThere, all-kept, all-of, all-seen, broker-post, viewed-there}
pub use Rattle.world_facts.proofs.EarlierLemmas.{older-facts}
pub use Rattle.world_facts.proofs.Growths.{each-has, every-at, every-filter, every-of}
pub use Rattle.world_facts.proofs.OldChains.{chain-of, some-history, some-log}
pub use Rattle.world_facts.proofs.Steps.{walk-known}
pub use Rattle.world_facts.specs.Earlier.{AreEarlier, AreOfLanguage, Earlier, TickedBy, WereLeftOrRetired, logs_left, replaced, sent_earlier}
pub use Rattle.world_facts.specs.Earlier.Earlier.{Retiring, Running}
pub use Rattle.world_facts.specs.NodeRules.{kind_post, node_facts}
pub use Rattle.world_facts.specs.Refines.{OlderFacts, logs_at}
pub use Rattle.world_facts.specs.Soft.{OldOk, SentOk}
