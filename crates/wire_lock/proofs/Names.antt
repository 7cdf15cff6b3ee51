-- The names that the proofs of this crate cite, passed on from one place. Declares nothing.
pub use Rattle.message_core.proofs.NodeLemmas.{same_is, same_node-refl}
pub use Rattle.pseudo_time.specs.Nodes.{repository, same_node}
pub use Rattle.pseudo_time.specs.StampParts.{IsStamp, StampParts}
pub use Rattle.pseudo_time.specs.declared.nodes.NodeId.{NodeId}
pub use Rattle.seat_lock.specs.Rule.{IsOneOf, same, total}
pub use Rattle.seat_lock.specs.Story.{Begins, entries_of}
pub use Rattle.seat_lock.specs.Words.{CarriesOn, IsInside, IsPassOf, base_in, base_of, board_size, fresh, has_noted, knows, lock_of, sees}
pub use Rattle.std.proofs.Common.{ap, append_assoc, ap₂, arith, cond, eq-eqb, get_or, inl, inr, refl, subst, sym, take, ◌∙◌}
pub use Rattle.std.proofs.lemmas.List.{append-nil, get_or-map, map-append, take_more}
pub use Rattle.std.proofs.lemmas.List.Elements.{filter-append}
pub use Rattle.std.specs.Prelude.{All, Bool, Err, IfOk, IsTrue, List, None, Ok, OnErr, Option, Result, Some, [], false, if◌then◌else◌, length, map, suc, true, zero, ℕ, ◌&&◌, ◌*◌, ◌++◌, ◌+◌, ◌<◌, ◌==◌, ◌^◌, ◌↔◌, ◌∷◌, ◌≡◌, ◌≤◌, ◌⊎◌}
pub use Rattle.wire_core.specs.Boards.{IsDecided, MayHold, number_of, owner_for, owner_of, place_of}
pub use Rattle.wire_core.specs.Wires.{IsRunOf, Origin, WireParts, base_from, trace_of, world_of}
pub use Rattle.wire_lock.specs.Decisions.{Decided, answer_of, decided_by, decision_in, posted}
pub use Rattle.wire_lock.specs.Sights.{Gated, HasNoneDue, HasNothingOpen, IsAsBefore, IsIdle, IsLeft, IsOf, IsWirePass, Looked, Owns, Sight, Tested, TicksOn, Visited, base_at, closed, flags_at, life_at, origin_at, origin_in, world_at}
pub use Rattle.wire_lock.specs.Stories.{IsUntold, end_of}
pub use Rattle.world_core.proofs.Lives.{same-life, stands-stays, walk-append, walk-more}
pub use Rattle.world_core.specs.Legal.{Idle, IsDecidedAs, asked_of, fates_of, is_behind, post_of}
pub use Rattle.world_core.specs.Walks.{Base, Flags, Life, Sending, World, after_input, all_effects, flagged, gated_life, has_heard, hears, is_down, lives_on, names, numbered, opened_log, own, sent_by, start_world, step, took, walk}
unfoldable pub use Rattle.world_core.specs.Walks.{walk_from}
pub use Rattle.world_core.specs.declared.entries.Entry.{Entry}
pub use Rattle.world_core.specs.declared.entries.Entry.TheVariants.{Crash, Down, Gate, Go, Hear, Learn, Take, Tick}
pub use Rattle.world_core.specs.declared.traces.Trace.{Trace}
