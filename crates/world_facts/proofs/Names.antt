-- The names that the proofs of this crate cite, passed on from one place. Declares nothing.
pub use Rattle.broker_core.specs.Book.{book, tries}
pub use Rattle.broker_laws.proofs.TurnLemmas.{cause-more, ready-cut, turn-added}
pub use Rattle.effect_form.specs.declared.effects.Effect.{Effect}
pub use Rattle.effect_form.specs.declared.effects.Effect.TheVariants.{Begin, Decide, Learn, Mark, Put, Stretch, Whole}
pub use Rattle.message_core.proofs.NodeLemmas.{same_is, same_node-refl}
pub use Rattle.message_form.proofs.GrowthLemmas.{each_below, each_grew, grew_drop, grew_keeps, grew_map, grew_on}
pub use Rattle.message_form.specs.Growth.{Each, Grew}
pub use Rattle.message_form.specs.Posts.{Post, WasSent, post, posts}
pub use Rattle.message_form.specs.declared.messages.Message.{Message}
pub use Rattle.message_form.specs.declared.turns.Out.{Out}
unfoldable pub use Rattle.object_history.specs.History.{floor_of, pick, scan, settle_of, version_count}
pub use Rattle.object_history.specs.Views.{Firm, Fits, IsOnFloor, Starts, Viewed, value_of}
pub use Rattle.object_retirement.proofs.ForwardLemmas.{decide-forwarded, known-carried, marks-carried, marks-forwarded, record-carried}
pub use Rattle.object_retirement.specs.Forward.{MayRetire, carried, forward, forwarded}
pub use Rattle.object_retirement.specs.Older.{Gone}
pub use Rattle.plan_form.specs.declared.plans.Plan.{Plan}
pub use Rattle.pseudo_time.proofs.ListLemmas.{every-append, every-has, every-map, has-left, has-reverse, has-right}
pub use Rattle.pseudo_time.specs.Lists.{Every, Has}
pub use Rattle.pseudo_time.specs.Nodes.{broker, same_node}
unfoldable pub use Rattle.pseudo_time.specs.Order.{lt, same_stamp}
pub use Rattle.pseudo_time.specs.StampParts.{StampParts}
pub use Rattle.pseudo_time.specs.TimeParts.{TimeParts}
pub use Rattle.pseudo_time.specs.declared.decisions.Decision.{Decision}
pub use Rattle.pseudo_time.specs.declared.nodes.NodeId.{NodeId}
pub use Rattle.pseudo_time.specs.declared.nodes.NodeKind.{NodeKind}
pub use Rattle.pseudo_time.specs.declared.nodes.NodeKind.TheVariants.{Broker, Repository}
pub use Rattle.repository_core.specs.Hands.{Hand}
pub use Rattle.repository_laws.proofs.Logs.{put-logged, tidy-kept}
pub use Rattle.repository_laws.proofs.Posts.{held-more, post-more, post-stays}
pub use Rattle.repository_laws.specs.Facts.{FitsLog, HeldHolds, IsTidy, WriteSent}
pub use Rattle.repository_log.specs.Logs.{is_commit, marks}
pub use Rattle.serial_model.specs.Questions.{Tree}
pub use Rattle.std.proofs.Common.{Bool, List, None, Option, Some, [], ap, append_assoc, arith, cond, drop, false, if◌then◌else◌, inl, inr, is_none, is_some, length, map, nat_le, refl, reverse, slice_get, subst, suc, sym, take, true, zero, ℕ, ◌&&◌, ◌++◌, ◌+◌, ◌-◌, ◌∙◌, ◌∷◌, ◌≡◌, ◌≢◌, ◌≤◌, ◌⊎◌}
pub use Rattle.std.proofs.lemmas.Bool.{and_from, and_parts, le-leb, leb-true, true≢false}
pub use Rattle.std.proofs.lemmas.List.{append-nil, length-append, map-append, reverse-append, reverse-reverse, take-append-drop}
pub use Rattle.std.specs.List.{filter}
pub use Rattle.std.specs.Option.{unwrap_or}
pub use Rattle.stream_port.specs.declared.fates.Asked.{Asked}
pub use Rattle.stream_port.specs.declared.fates.Fate.{Fate}
pub use Rattle.value_form.specs.declared.acts.ActSpec.{ActSpec}
pub use Rattle.value_form.specs.declared.objects.ObjectId.{ObjectId}
pub use Rattle.value_form.specs.declared.values.Value.{Value}
pub use Rattle.world_core.proofs.Rules.{meets-front}
pub use Rattle.world_core.specs.Legal.{AllReady, IsDecidedAs, Legal, MayCrash, MayGate, MayHear, MayTake, Rule, base_of, fates_of, in_plan, is_within}
unfoldable pub use Rattle.world_core.specs.Legal.{Meets}
pub use Rattle.world_core.specs.Nodes.{Given, Input, Mind, acts_of, kind_gives, kind_ready, leaves, opened_mind, repository}
unfoldable pub use Rattle.world_core.specs.Nodes.{gives, is_ready}
pub use Rattle.world_core.specs.Nodes.Input.{Going, Hearing, Learning, Taking}
pub use Rattle.world_core.specs.Pasts.{AreCalls, Call, HasPast, IsCall, OpenedWith, alike, log_left, logs_after}
pub use Rattle.world_core.specs.Walks.{Base, Flags, Life, Sending, World, after_input, crashed_life, flagged, gated_life, has_heard, hears, last_after, learned, leaving, lives_on, names, numbered, opened_log, sent_by, start_world, step, took, walk, went, with_given}
unfoldable pub use Rattle.world_core.specs.Walks.{walk_from}
pub use Rattle.world_core.specs.declared.entries.Entry.{Entry}
pub use Rattle.world_core.specs.declared.traces.Trace.{Trace}
pub use Rattle.world_facts.specs.Acknowledged.{Keeps, SeesAbove, SeesOverAll, SeesStill, StandsOrGone, ViewedOrBelow}
pub use Rattle.world_facts.specs.Earlier.{AreEarlier, AreRuns, ComeFrom, Earlier, TickedBy, TickedEarlier, logs_left, older, replaced, sent_earlier}
pub use Rattle.world_facts.specs.Earlier.Earlier.{Retiring, Running}
pub use Rattle.world_facts.specs.NodeRules.{kind_cause, kind_fits, kind_is_ready, kind_mind, kind_post, kind_retires, kind_tidy, kind_turn, node_facts, node_turns, of_desk, of_hand}
pub use Rattle.world_facts.specs.Refines.{Left, LivesOk, LogFacts, Models, OlderFacts, PastTick, Refines, Ticked, logs_at, past_sent, soft_of}
pub use Rattle.world_facts.specs.Rules.{Around, GrownFrom, IsDecided, Later, MayInput, NodeFacts, NodeLaws, PastLaws, SenderOk, SomeOf, TurnGiven, TurnGives, Turns}
pub use Rattle.world_facts.specs.Soft.{Inv, Lineage, May, Mays, NodeOk, OldOk, SentOk, SentOnce, Soft, SoftEvent, SoftNode, all_effects, around, crash, gate, happened, happens, keep, kept_log, nothing, opened_soft, put, react, with_turn}
pub use Rattle.world_facts.specs.Soft.SoftEvent.{Crash, Gate, React, Retire, Start, Tick}
