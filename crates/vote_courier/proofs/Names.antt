-- The names that the proofs of this crate cite, passed on from one place. Declares nothing.
pub use Rattle.message_core.specs.Flights.{AllEmpty, passed, taken, was_shut}
pub use Rattle.message_core.specs.Parts.{state_of}
pub use Rattle.message_core.specs.Tallies.{blank_tally, numbered}
pub use Rattle.message_core.specs.declared.letters.Arrival.{Arrival}
pub use Rattle.message_form.specs.Posts.{Post, posts}
pub use Rattle.message_form.specs.declared.turns.Out.{Out}
pub use Rattle.pseudo_time.specs.Nodes.{broker, same_node}
pub use Rattle.pseudo_time.specs.declared.down_causes.DownCause.{DownCause}
pub use Rattle.pseudo_time.specs.declared.nodes.NodeId.{NodeId}
pub use Rattle.record_votes.specs.Voting.{Line}
pub use Rattle.std.proofs.Common.{Bool, IsTrue, List, [], ap, append_assoc, arith, false, inl, inr, length, map, refl, subst, sym, true, ℕ, ◌++◌, ◌+◌, ◌<◌, ◌^◌, ◌↔◌, ◌∙◌, ◌∷◌, ◌≡◌, ◌≤◌}
pub use Rattle.std.proofs.lemmas.List.{append-nil, map-append}
pub use Rattle.std.specs.Prelude.{None, Option, Some, cond, if◌then◌else◌, is_some, max, min, not, ◌&&◌, ◌||◌}
pub use Rattle.stream_port.specs.declared.fates.Asked.{Asked}
pub use Rattle.vote_courier.specs.Couriers.{CourierParts, HasSent, IsNew, Takes, tick_moment, with_entry}
pub use Rattle.vote_courier.specs.Stations.{MayAct, Stands, hall_of, owes, trace_of}
pub use Rattle.vote_wire.proofs.DueLemmas.{front-cons, is-copy, numbered-from}
pub use Rattle.vote_wire.proofs.WalkLemmas.{begins-legal, goes-on, walk-more}
pub use Rattle.vote_wire.specs.Legal.{JustVoters, Legal, Rule, base_of, hall_after}
pub use Rattle.vote_wire.specs.Walks.{Base, Hall, leaving, member_on, owed_on, poll_heard, poll_on, poll_took, start_hall, step, walk, world_of}
unfoldable pub use Rattle.vote_wire.specs.Walks.{walk_from}
pub use Rattle.world_core.specs.Legal.{Numbered, asked_of, fates_of, is_behind, post_of}
pub use Rattle.world_core.specs.Walks.{Flags, Sending, flagged, has_heard, heard_after, last_after, names, opened_log, own, sent_by, ticks_after, with_due}
pub use Rattle.world_core.specs.declared.entries.Entry.{Entry}
pub use Rattle.world_core.specs.declared.entries.Entry.TheVariants.{Crash, Down, Gate, Go, Hear, Learn, Take, Tick}
pub use Rattle.world_core.specs.declared.traces.Opened.{Opened}
pub use Rattle.world_core.specs.declared.traces.Sent.{Sent}
