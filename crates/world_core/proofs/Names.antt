-- The names that the proofs of this crate cite, passed on from one place. Declares nothing.
pub use Rattle.broker_core.proofs.ReadingLemmas.{printable-up, reads-all, reads-own}
pub use Rattle.broker_core.specs.Ledgers.{AreBrokerActs, IsBrokerAct}
pub use Rattle.broker_core.specs.Tasks.{Scripted, Task, task_of, tasks}
pub use Rattle.effect_form.specs.declared.effects.Effect.{Effect}
pub use Rattle.message_form.specs.Posts.{Post, posts}
pub use Rattle.message_form.specs.declared.messages.Message.{Message}
pub use Rattle.message_form.specs.declared.turns.Out.{Out}
pub use Rattle.object_history.specs.Answers.{needs_stretch, read_from, read_seen, read_step, write_step}
pub use Rattle.object_history.specs.History.{Seen, floor_of, is_settled, sees, settle_of}
pub use Rattle.object_history.specs.Views.{IsOnFloor}
pub use Rattle.object_history.specs.declared.steps.WriteStep.{WriteStep}
pub use Rattle.plan_form.proofs.PlanRangeLemmas.{of-whole}
pub use Rattle.plan_form.specs.PlanTexts.{CanRun}
pub use Rattle.plan_form.specs.declared.plans.Plan.{Plan}
pub use Rattle.pseudo_time.proofs.ListLemmas.{every-append, every-has, every-map, has-left, has-right}
pub use Rattle.pseudo_time.specs.Lists.{Every, Has}
pub use Rattle.pseudo_time.specs.Nodes.{is_broker, kind_number, same_node}
pub use Rattle.pseudo_time.specs.StampParts.{StampParts}
pub use Rattle.pseudo_time.specs.TimeParts.{TimeParts, time_cmp}
pub use Rattle.pseudo_time.specs.declared.nodes.NodeId.{NodeId}
pub use Rattle.pseudo_time.specs.declared.nodes.NodeKind.{NodeKind}
pub use Rattle.pseudo_time.specs.declared.nodes.NodeKind.TheVariants.{Broker, Repository}
pub use Rattle.repository_core.specs.Hands.{Hand, asker_cmp, note, now, send}
pub use Rattle.repository_core.specs.Logs.{is_commit, known, marks, record_of}
pub use Rattle.repository_core.specs.Rows.{accepts, ask_as, ask_for, begin_as, close_as, hold, is_broker_of, learn_as, read_as, read_known, reread, row, tells, unhold, waits_for, write_as}
unfoldable pub use Rattle.repository_core.specs.Rows.{on_ask, on_begin, on_close, on_learn, on_message, on_read, on_write, release, tell_askers}
pub use Rattle.repository_core.specs.HeldRead.{HeldRead}
pub use Rattle.serial_model.specs.Questions.{Tree}
pub use Rattle.std.proofs.Common.{Bool, Err, List, None, Ok, Option, Result, Some, [], ap, append_assoc, arith, cond, false, if◌then◌else◌, is_some, length, map, nat_le, not, refl, slice_get, subst, suc, sym, take, true, zero, ℕ, ◌&&◌, ◌++◌, ◌+◌, ◌==◌, ◌||◌, ◌∙◌, ◌∷◌, ◌≡◌, ◌≢◌, ◌≤◌}
pub use Rattle.std.proofs.lemmas.Bool.{eqb-true, true≢false}
pub use Rattle.std.proofs.lemmas.List.{append-nil, length-append, length-map, map-append, reverse-append}
pub use Rattle.std.proofs.lemmas.List.Elements.{filter-append}
pub use Rattle.std.specs.List.{filter}
pub use Rattle.std.specs.Prelude.{IfOk, OnOk, is_none, reverse, ◌⊎◌}
pub use Rattle.stream_port.specs.declared.fates.Asked.{Asked}
pub use Rattle.stream_port.specs.declared.fates.Fate.{Fate}
pub use Rattle.value_form.specs.Mirror.{block}
pub use Rattle.value_form.specs.declared.acts.ActSpec.{ActSpec}
pub use Rattle.value_form.specs.declared.objects.ObjectId.{ObjectId}
pub use Rattle.value_form.specs.declared.values.Value.{Value}
pub use Rattle.world_core.specs.Legal.{AllReady, IsDecidedAs, IsIdle, JustNodes, Legal, MayTake, Numbered, Rule, asked_of, base_of, fates_of, in_plan, is_behind, post_of}
unfoldable pub use Rattle.world_core.specs.Legal.{Meets}
pub use Rattle.world_core.specs.Nodes.{Given, Input, Mind, acts_of, broker, broker_gives, desk_after, kind_gives, kind_ready, leaves, nothing_given, repository, repository_gives, with_desk, with_hands}
unfoldable pub use Rattle.world_core.specs.Nodes.{gives, is_ready}
pub use Rattle.world_core.specs.Nodes.Input.{Going, Hearing, Learning, Taking}
pub use Rattle.world_core.specs.Pasts.{AreCalls, Call, HasPast, IsCall, alike, log_left, logs_after, own_reading}
pub use Rattle.world_core.specs.Walks.{Base, Flags, Life, Sending, World, after_input, all_effects, flagged, flags_after, heard_after, hears, is_down, last_after, leaving, life_after, lives_on, names, numbered, opened_flags, own, sendings_after, sent_by, start_world, step, taken_after, ticks_after, took, walk, with_given}
unfoldable pub use Rattle.world_core.specs.Walks.{walk_from}
pub use Rattle.world_core.specs.declared.entries.Entry.{Entry}
pub use Rattle.world_core.specs.declared.entries.Entry.TheVariants.{Crash, Down, Gate, Go, Hear, Learn, Take, Tick}
pub use Rattle.world_core.specs.declared.traces.Trace.{Trace}
