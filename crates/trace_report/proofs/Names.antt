-- The names that the proofs of this crate cite, passed on from one place. Declares nothing.
pub use Rattle.broker_core.proofs.GivenLemmas.{stored-given, value-given}
pub use Rattle.broker_core.proofs.SoundLemmas.{closed-run, sound-kept}
pub use Rattle.broker_core.specs.Book.{Act, Book, Try, close, enter, finish, gain, new_try, on_act, on_front, on_try}
unfoldable pub use Rattle.broker_core.specs.Book.{book}
pub use Rattle.broker_core.specs.Fits.{add_if, counts, fits, reads_now, writes_now}
unfoldable pub use Rattle.broker_core.specs.Fits.{keep}
pub use Rattle.broker_core.specs.Ledgers.{AreBrokerActs}
unfoldable pub use Rattle.broker_core.specs.Readings.{reading}
pub use Rattle.broker_core.specs.Sound.{OfAct, Started}
pub use Rattle.broker_core.specs.Tasks.{Scripted, Task, task_of, tasks}
pub use Rattle.effect_form.specs.declared.effects.Effect.{Effect}
pub use Rattle.object_history.proofs.MapLemmas.{get-entries_of, insert-entries_of}
pub use Rattle.object_history.specs.History.{Seen, or_else, starts_above}
unfoldable pub use Rattle.object_history.specs.History.{pick, scan, version_count}
unfoldable pub use Rattle.object_history.specs.Objects.{same_object}
pub use Rattle.object_history.specs.Views.{value_of}
pub use Rattle.object_history.specs.declared.marks.Mark.{Mark}
pub use Rattle.plan_form.specs.PlanTexts.{EachAct, CanRun}
pub use Rattle.plan_form.specs.declared.plans.Plan.{Plan}
pub use Rattle.pseudo_time.proofs.ListLemmas.{every-has, every-reverse}
pub use Rattle.pseudo_time.proofs.OrderLemmas.{same_stamp-is, stamp_cmp-exact, stamp_cmp-total}
pub use Rattle.pseudo_time.specs.Lists.{Every, Has}
pub use Rattle.pseudo_time.specs.Nodes.{broker, repository, same_node}
unfoldable pub use Rattle.pseudo_time.specs.Order.{lt, same_stamp}
pub use Rattle.pseudo_time.specs.StampParts.{StampParts, stamp_cmp}
pub use Rattle.pseudo_time.specs.TimeParts.{TimeParts}
pub use Rattle.pseudo_time.specs.declared.nodes.NodeId.{NodeId}
pub use Rattle.pseudo_time.specs.declared.nodes.NodeKind.TheVariants.{Broker, Repository}
pub use Rattle.report_writer.specs.Reports.{down_text, report_text}
pub use Rattle.report_writer.specs.Standings.{count_of}
pub use Rattle.report_writer.specs.declared.records.ActOutcome.TheVariants.{Open}
pub use Rattle.report_writer.specs.declared.records.ActReport.{ActReport}
pub use Rattle.report_writer.specs.declared.records.TryReport.{TryReport}
pub use Rattle.repository_log.specs.Logs.{first_said, is_commit, mark_of, marks}
unfoldable pub use Rattle.repository_log.specs.Logs.{knows}
pub use Rattle.script_meaning.specs.Meaning.{Answer, Got, Stop, Stored}
pub use Rattle.serial_model.specs.Questions.{Ends, Reads, Says, Tree, Writes, denote, line_before, stop, talked}
pub use Rattle.std.proofs.Common.{Bool, List, None, Option, Some, [], ap, append-nil, append_assoc, arith, cond, drop, false, get_or, if◌then◌else◌, inl, inr, length, map, not, refl, reverse, rules, subst, suc, sym, take, true, zero, ℕ, ◌&&◌, ◌++◌, ◌+◌, ◌<◌, ◌==◌, ◌||◌, ◌∙◌, ◌∷◌, ◌≡◌, ◌≤◌}
pub use Rattle.std.proofs.lemmas.Bool.{and_right, cond-false, cond-true, eq-eqb, eqb-true, false≢true, true≢false}
pub use Rattle.std.proofs.lemmas.Cmp.{eq_by_cmp_equiv}
pub use Rattle.std.proofs.lemmas.Grind.{common_steps, flat_map-append}
pub use Rattle.std.proofs.lemmas.List.{length-append, length-reverse, map-append, reverse-append, reverse-reverse}
pub use Rattle.std.specs.BTreeMap.{is_at}
pub use Rattle.std.specs.List.{filter, flat_map, slice_get}
pub use Rattle.std.specs.Option.{is_some, option_map, option_to_list, unwrap_or}
pub use Rattle.std.specs.Ordering.{is_eq, nat_cmp}
pub use Rattle.std.specs.Prelude.{IfOk, codes, nat_le, pos, ◌-◌}
pub use Rattle.trace_logs.specs.Replays.{base_for, logs_in}
pub use Rattle.trace_report.specs.Acts.{act_begun, act_shown, acts_in, acts_shown, begun_acts, counted_by, shown_end, spent_at, tasks_of, tries_shown, try_shown}
pub use Rattle.trace_report.specs.Begun.{ActParts, act_parts, closed, ended, entered, gained, kept, kept_act, kept_try, on_first, on_last, spent_by, tried, try_parts}
pub use Rattle.trace_report.specs.Books.{begun_last, begun_to, entered_if, read_off}
pub use Rattle.trace_report.specs.Decided.{AreDecided, AreEach, learned_in_some, said_at}
pub use Rattle.trace_report.specs.Downs.{cause_of, fallen, nodes_of_kind, shown}
pub use Rattle.trace_report.specs.Finals.{all_marks, last_put, last_values, marks_to}
unfoldable pub use Rattle.trace_report.specs.Finals.{holding}
pub use Rattle.trace_report.specs.Firsts.{AreFirsts, Said, is_decided, is_learned, said_by}
unfoldable pub use Rattle.trace_report.specs.Firsts.{first_of}
pub use Rattle.trace_report.specs.LastVersions.{AreLast, final_last, is_above, last_at, last_parts, seen_parts}
pub use Rattle.trace_report.specs.Reports.{acts_line, down_shown, downs_shown, final_of, finals_shown, last_of, load_line, load_text_by, logs_by, nodes_of, open_by, report_by, run_over, run_text_by, sum_in, sum_text, tries_in, wire_shown}
pub use Rattle.trace_report.specs.Shown.{HasActs, act_told, begun_at, part_at, spent_told, tries_told, try_told}
pub use Rattle.trace_report.specs.Transcripts.{Gave, IsUnasked, answer_of, answers_of}
pub use Rattle.trace_report.specs.declared.answers.Answered.{Answered}
pub use Rattle.trace_report.specs.declared.begun.BegunAct.{BegunAct}
pub use Rattle.trace_report.specs.declared.begun.BegunTry.{BegunTry}
pub use Rattle.value_form.specs.Mirror.{block}
pub use Rattle.value_form.specs.Ranges.{IsScript}
pub use Rattle.value_form.specs.declared.acts.ActSpec.{ActSpec}
pub use Rattle.value_form.specs.declared.objects.ObjectId.{ObjectId}
pub use Rattle.value_form.specs.declared.scripts.Stmt.{Stmt}
pub use Rattle.value_form.specs.declared.values.Value.{Value}
pub use Rattle.value_form.specs.declared.values.Value.TheVariants.{Nothing, Number}
pub use Rattle.world_core.proofs.OneReading.{own-reading}
pub use Rattle.world_core.proofs.PlanRangeLemmas.{plan-AreBrokerActs, plan-own_acts}
pub use Rattle.world_core.specs.Deeds.{RunLogs, in_run, log_of}
unfoldable pub use Rattle.world_core.specs.Deeds.{committed, has_commit, has_learned, some_of}
pub use Rattle.world_core.specs.Nodes.{acts_of}
pub use Rattle.world_core.specs.Readings.{gated_log, world_after}
pub use Rattle.world_core.specs.Walks.{Base, World, flagged, lives_on, names, opened_log, start_world, step, walk}
unfoldable pub use Rattle.world_core.specs.Walks.{walk_from}
pub use Rattle.world_core.specs.declared.entries.Entry.{Entry}
pub use Rattle.world_core.specs.declared.entries.Entry.TheVariants.{Crash, Down, Tick}
pub use Rattle.world_core.specs.declared.traces.Opened.{Opened}
pub use Rattle.world_core.specs.declared.traces.Trace.{Trace}
