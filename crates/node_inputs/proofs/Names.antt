-- The names that the proofs of this crate cite, passed on from one place. Declares nothing.
pub use Rattle.effect_form.specs.declared.effects.Effect.{Effect}
pub use Rattle.medium_port.specs.Image.{Image, IsImage, NoMore}
pub use Rattle.medium_port.specs.Moment.{LeavesOnly}
pub use Rattle.medium_port.specs.declared.media.Medium.{Ghosts as Media}
pub use Rattle.message_core.proofs.NodeLemmas.{same_node-refl}
pub use Rattle.message_form.specs.Ranges.{AreEffects, AreOuts}
pub use Rattle.message_form.specs.declared.turns.Out.{Out}
pub use Rattle.node_inputs.specs.Cores.{HasGrown, HasTurn, IsAppended, IsDamageOf, IsFull, IsGiven, IsIntact, IsReady, IsReopened, LeavesLog, given_for}
pub use Rattle.node_inputs.specs.Costs.{cost_of, costs}
pub use Rattle.node_inputs.specs.Entries.{Adds, Grew}
pub use Rattle.node_inputs.specs.Lives.{AskNobody, DraftParts, HasLife, IsAfter, IsKept, IsStored, IsStruck, IsUnwritten, IsUp, StaysReady, up_flags}
pub use Rattle.node_inputs.specs.Trails.{Trail, gates, learned_by, learned_in}
unfoldable pub use Rattle.node_inputs.specs.Trails.{sent_from}
pub use Rattle.node_inputs.specs.declared.core_meanings.Meanings.{Ghosts as Meanings}
pub use Rattle.object_history.specs.declared.steps.HistoryFault.{HistoryFault}
pub use Rattle.page_gate.specs.States.{is_blank}
pub use Rattle.pseudo_time.proofs.ListLemmas.{every-append}
pub use Rattle.pseudo_time.specs.Nodes.{is_broker}
pub use Rattle.pseudo_time.specs.StampParts.{StampParts}
pub use Rattle.pseudo_time.specs.declared.nodes.NodeId.{NodeId}
pub use Rattle.pseudo_time.specs.declared.nodes.NodeKind.{NodeKind}
pub use Rattle.pseudo_time.specs.declared.nodes.NodeKind.TheVariants.{Broker, Repository}
pub use Rattle.repository_log.specs.Logs.{decided_by, is_for}
pub use Rattle.seat_lock.specs.Words.{CarriesOn, knows}
pub use Rattle.serial_model.specs.Questions.{Tree}
pub use Rattle.std.proofs.Common.{Bool, Err, IfErr, IfOk, IsErrOf, IsTrue, List, None, Ok, OnErr, OnOk, Option, Result, Some, [], ap, append_assoc, arith, drop, false, if◌then◌else◌, is_none, is_some, length, not, refl, reverse, subst, suc, sym, take, true, zero, ℕ, ⊎_elim, ◌++◌, ◌+◌, ◌-◌, ◌<◌, ◌==◌, ◌||◌, ◌∙◌, ◌∷◌, ◌≡◌, ◌≢◌, ◌≤◌}
pub use Rattle.std.proofs.lemmas.Bool.{cases_lt}
pub use Rattle.std.proofs.lemmas.List.{append-nil, reverse-append, reverse-reverse}
pub use Rattle.std.specs.List.{filter}
pub use Rattle.std.specs.Prelude.{count_by}
pub use Rattle.stream_port.specs.Causes.{Rose}
pub use Rattle.value_form.specs.declared.acts.ActSpec.{ActSpec}
pub use Rattle.version_store.specs.Filling.{HasPrefix, KeepsPages, StaysClean, filling}
pub use Rattle.version_store.specs.Storage.{effects_found, log_of, storage}
pub use Rattle.version_store.specs.declared.faults.OpenFault.{OpenFault}
pub use Rattle.version_store.specs.declared.faults.StoreFault.{StoreFault}
pub use Rattle.wire_core.specs.Boards.{owner_of, place_of}
pub use Rattle.wire_core.specs.Changes.{owed}
pub use Rattle.wire_core.specs.Wires.{WireParts, base_from}
pub use Rattle.wire_lock.proofs.SightLemmas.{own-same}
pub use Rattle.wire_lock.specs.Decisions.{Decided}
pub use Rattle.wire_lock.specs.Sights.{Added, Gated, IsAsBefore, IsOf, IsWirePass, Looked, Owns, Sight, TakesOne, Tested, Visited, base_at, flags_at, given, life_at, origin_in, world_at}
pub use Rattle.world_core.proofs.Lives.{walk-append}
pub use Rattle.world_core.specs.Nodes.{Input, Mind, acts_of, broker_ready, kind_gives, kind_ready, leaves}
unfoldable pub use Rattle.world_core.specs.Nodes.{gives, is_ready}
pub use Rattle.world_core.specs.Nodes.Input.{Going, Hearing, Learning, Taking}
pub use Rattle.world_core.specs.Walks.{Base, Flags, Life, World, after_input, all_effects, gated_life, learned, names, own, start_world, step, walk, went, with_due}
unfoldable pub use Rattle.world_core.specs.Walks.{walk_from}
pub use Rattle.world_core.specs.declared.entries.Entry.{Entry}
pub use Rattle.world_core.specs.declared.entries.Entry.TheVariants.{Crash, Down, Gate, Go, Hear, Learn, Take, Tick}
