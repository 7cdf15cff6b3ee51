-- The names that the proofs of this crate cite, passed on from one place. Declares nothing.
pub use Rattle.message_core.proofs.NodeLemmas.{finds_same, found_same, same_is}
pub use Rattle.message_core.proofs.StayLemmas.{gone, kept-if, kept-map, kept-sent, made}
pub use Rattle.message_core.proofs.TallyLemmas.{empty-taken, front-due, tallied_start, tallied_step}
pub use Rattle.message_core.specs.Arrivals.{IsFront}
pub use Rattle.message_core.specs.Flights.{AllEmpty, State, passed, sent, sent_at_once, sent_later, start, taken, waiting, was_shut}
pub use Rattle.message_core.specs.Parts.{FlightParts, state_of}
pub use Rattle.message_core.specs.Senders.{AllInRange, letter_of}
pub use Rattle.message_core.specs.Tallies.{IsDue, blank_tally, count, noted}
pub use Rattle.message_core.specs.declared.letters.Arrival.{Arrival}
pub use Rattle.message_form.specs.Messages.{IsMessage, message_bytes}
pub use Rattle.message_form.specs.Posts.{Post, post, posts}
pub use Rattle.message_form.specs.declared.turns.Out.{Out}
pub use Rattle.plan_form.specs.declared.plans.Plan.{Plan}
pub use Rattle.pseudo_time.proofs.ListLemmas.{every-append}
pub use Rattle.pseudo_time.specs.Lists.{Every}
pub use Rattle.pseudo_time.specs.Nodes.{is_broker, same_node}
pub use Rattle.pseudo_time.specs.declared.down_causes.DownCause.{DownCause}
pub use Rattle.pseudo_time.specs.declared.nodes.NodeId.{NodeId}
pub use Rattle.pseudo_time.specs.declared.nodes.NodeKind.{NodeKind}
pub use Rattle.pseudo_time.specs.declared.nodes.NodeKind.TheVariants.{Broker, Repository}
pub use Rattle.std.proofs.Common.{Bool, IsTrue, List, None, Option, Some, [], add-zero, ap, append_assoc, arith, cond, false, get_or, if◌then◌else◌, inl, inr, is_some, length, length-append, map, not, refl, rules, slice_get, slice_index_or, subst, suc, sym, take, true, zero, ℕ, ◌&&◌, ◌++◌, ◌+◌, ◌-◌, ◌<◌, ◌==◌, ◌^◌, ◌||◌, ◌∙◌, ◌∷◌, ◌≡◌, ◌≤◌, ◌⊎◌}
pub use Rattle.std.proofs.lemmas.List.{append-nil, length-map, map-append, take_more}
pub use Rattle.std.specs.List.{filter, list_any}
pub use Rattle.std.specs.Option.{option_map, unwrap_or}
pub use Rattle.std.specs.Prelude.{◌↔◌}
pub use Rattle.stream_port.specs.Clocks.{Adds, adds_joins}
pub use Rattle.stream_port.specs.declared.fates.Asked.{Asked}
pub use Rattle.stream_port.specs.declared.fates.Fate.{Fate}
pub use Rattle.wire_core.specs.Changes.{IsCopyOf, IsQuiet, TookAll, owed}
pub use Rattle.wire_core.specs.Clocked.{IsClocked, counted, moments_of, next_moment, tick_moments}
pub use Rattle.wire_core.specs.Copies.{IsTied, Marked, all_marked, posted, sent_of, tallied}
pub use Rattle.wire_core.specs.Flagged.{after_entry, after_own, flags_at, flags_of, heard_last, heard_then, is_idle, is_idle_at, is_late, names_of, new_flags, shown, standing_at}
pub use Rattle.wire_core.specs.Sound.{IsFlown, IsSound, origin_with, parts_with}
pub use Rattle.wire_core.specs.Stories.{Fits, HasOneMore, IsOpened}
pub use Rattle.wire_core.specs.Wires.{IsRunOf, Origin, WireParts, base_from, trace_of, world_of}
pub use Rattle.wire_core.specs.declared.flags.NodeFlags.{NodeFlags}
pub use Rattle.wire_core.specs.declared.flags.Standing.{Standing}
pub use Rattle.wire_core.specs.declared.stories.Story.{Story}
pub use Rattle.world_core.proofs.Rules.{meets-grown, meets-more}
pub use Rattle.world_core.specs.Legal.{AllReady, HasGone, HasHeard, Idle, IsDecidedAs, IsReleased, MayTake, MayTick, Numbered, Rule, asked_of, base_of, fates_of, is_behind, post_of, times_taken}
unfoldable pub use Rattle.world_core.specs.Legal.{Meets}
pub use Rattle.world_core.specs.Readings.{IsLegal}
pub use Rattle.world_core.specs.Walks.{Base, Flags, Sending, World, all_effects, flagged, flags_after, heard_after, is_down, last_after, leaving, names, numbered, opened_flags, opened_log, sendings_after, sent_by, start_world, step, taken_after, ticks_after, walk}
unfoldable pub use Rattle.world_core.specs.Walks.{walk_from}
pub use Rattle.world_core.specs.declared.entries.Entry.{Entry}
pub use Rattle.world_core.specs.declared.entries.Entry.TheVariants.{Crash, Down, Gate, Go, Hear, Learn, Take, Tick}
pub use Rattle.world_core.specs.declared.traces.Sent.{Sent}
