-- The names that the proofs of this crate cite, passed on from one place. Declares nothing.
unfoldable pub use Rattle.broker_core.specs.Book.{book}
unfoldable pub use Rattle.broker_core.specs.Fits.{keep, other_plan}
pub use Rattle.broker_core.specs.Ledgers.{AreBrokerActs}
pub use Rattle.broker_core.specs.Tasks.{Scripted, Task, task_of, task_with}
unfoldable pub use Rattle.broker_core.specs.Turns.{settle_up}
pub use Rattle.effect_form.specs.declared.effects.Effect.{Effect}
pub use Rattle.message_core.proofs.NodeLemmas.{same_is, same_node-refl}
pub use Rattle.message_form.specs.Messages.{IsMessage, tag_of}
pub use Rattle.message_form.specs.Posts.{Post, post, posts}
pub use Rattle.message_form.specs.Ranges.{AreEffects, AreOuts, IsEffect}
pub use Rattle.message_form.specs.declared.messages.Message.{Message}
pub use Rattle.message_form.specs.declared.turns.Out.{Out}
pub use Rattle.plan_form.specs.declared.plans.Plan.{Plan}
pub use Rattle.pseudo_time.proofs.ListLemmas.{every-append, every-left}
pub use Rattle.pseudo_time.specs.Lists.{Every}
pub use Rattle.pseudo_time.specs.Nodes.{kind_number, same_node}
unfoldable pub use Rattle.pseudo_time.specs.Order.{lt, same_stamp, same_time}
pub use Rattle.pseudo_time.specs.StampParts.{StampParts}
pub use Rattle.pseudo_time.specs.declared.nodes.NodeId.{NodeId}
pub use Rattle.pseudo_time.specs.declared.nodes.NodeKind.{NodeKind}
pub use Rattle.pseudo_time.specs.declared.nodes.NodeKind.TheVariants.{Broker, Repository}
unfoldable pub use Rattle.repository_core.specs.Logs.{decision_of, first_begin, knows}
unfoldable pub use Rattle.repository_core.specs.Rows.{on_begin, on_close, on_message, on_read, on_write, release, tell_askers}
pub use Rattle.script_form.specs.RowTexts.{script_text}
pub use Rattle.serial_model.specs.Questions.{Tree, denote}
pub use Rattle.std.proofs.Common.{Bool, Err, List, None, Ok, Option, Result, Some, [], ap, arith, cond, drop, false, if◌then◌else◌, inl, inr, length, map, not, refl, reverse, rules, slice_get, subst, suc, sym, take, true, zero, ℕ, ◌&&◌, ◌++◌, ◌+◌, ◌<◌, ◌==◌, ◌^◌, ◌||◌, ◌∙◌, ◌∷◌, ◌≡◌, ◌≢◌, ◌≤◌, ◌⊎◌}
pub use Rattle.std.proofs.Math.ListN.{get_or, set}
pub use Rattle.std.proofs.lemmas.List.{append-nil, length-append, map-append, reverse-append, take-append-drop, take_all, take_more}
pub use Rattle.std.proofs.lemmas.List.Sums.{sum_by-append, sum_by-cons}
pub use Rattle.std.specs.List.{count_by, filter}
pub use Rattle.std.specs.Option.{option_map, unwrap_or}
pub use Rattle.std.specs.Prelude.{IfOk, OnOk, codes, is_some, nat_le, pos}
pub use Rattle.std.specs.Vec.{with_item}
pub use Rattle.stream_port.specs.declared.fates.Asked.{Asked}
pub use Rattle.stream_port.specs.declared.fates.Fate.{Fate}
pub use Rattle.trace_logs.specs.Cores.{Gave, IsAble, StandsFor, acts_for, kind_of, own_acts}
pub use Rattle.trace_logs.specs.Letters.{AreLetters, all_posted, posted}
pub use Rattle.trace_logs.specs.ReplayedNodes.{IsSound, Lives}
pub use Rattle.trace_logs.specs.Replays.{Apart, AreAt, IsAbsent, IsFit, IsOnce, Shows, base_for, gated_logs, is_among, logs_in, nodes_of}
pub use Rattle.trace_logs.specs.declared.letters.SentMessage.{SentMessage}
pub use Rattle.trace_logs.specs.declared.replayed_nodes.ReplayedNode.{ReplayedNode}
pub use Rattle.trace_logs.specs.declared.replays.Replay.{Replay}
pub use Rattle.value_form.specs.Mirror.{block}
pub use Rattle.value_form.specs.MirrorLaws.{block-made, made_all}
pub use Rattle.value_form.specs.declared.acts.ActSpec.{ActSpec}
pub use Rattle.world_core.proofs.Lives.{step-other, walk-more}
pub use Rattle.world_core.specs.Legal.{AllReady, JustNodes, Legal, Rule, asked_of, fates_of, in_plan, is_within, post_of}
unfoldable pub use Rattle.world_core.specs.Legal.{Meets}
pub use Rattle.world_core.specs.Nodes.{Given, Input, Mind, acts_of, broker_gives, desk_after, leaves, nothing_given, opened_mind, repository_gives, with_desk, with_hands}
unfoldable pub use Rattle.world_core.specs.Nodes.{gives, is_ready}
pub use Rattle.world_core.specs.Nodes.Input.{Going, Hearing, Learning, Taking}
pub use Rattle.world_core.specs.Walks.{Base, Flags, Life, Sending, World, after_input, all_effects, crashed_life, flagged, gated_life, has_heard, hears, last_after, learned, leaving, lives_on, names, numbered, opened_life, opened_log, sent_by, start_world, step, took, walk, went, with_due, with_given}
unfoldable pub use Rattle.world_core.specs.Walks.{walk_from}
pub use Rattle.world_core.specs.declared.entries.Entry.{Entry}
pub use Rattle.world_core.specs.declared.entries.Entry.TheVariants.{Crash, Down, Gate, Go, Hear, Learn, Take, Tick}
pub use Rattle.world_core.specs.declared.traces.Opened.{Opened}
pub use Rattle.world_core.specs.declared.traces.Sent.{Sent}
pub use Rattle.world_core.specs.declared.traces.Trace.{Trace}
