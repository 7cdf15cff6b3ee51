-- The names that the proofs of this crate cite, passed on from one place. Declares nothing.
pub use Rattle.effect_form.specs.declared.effects.Effect.{Effect}
pub use Rattle.message_core.proofs.NodeLemmas.{same_is, same_node-refl}
pub use Rattle.message_core.specs.Flights.{AllEmpty, was_shut}
pub use Rattle.message_core.specs.Parts.{state_of}
pub use Rattle.message_form.specs.declared.turns.Out.{Out}
pub use Rattle.message_form.specs.declared.turns.Turn.{Turn}
pub use Rattle.pseudo_time.specs.Nodes.{broker, is_broker, repository, same_node}
pub use Rattle.pseudo_time.specs.declared.down_causes.DownCause.{DownCause}
pub use Rattle.pseudo_time.specs.declared.nodes.NodeId.{NodeId}
pub use Rattle.pseudo_time.specs.declared.nodes.NodeKind.{NodeKind}
pub use Rattle.pseudo_time.specs.declared.nodes.NodeKind.TheVariants.{Broker, Repository}
pub use Rattle.record_votes.specs.Books.{MemberState}
pub use Rattle.record_votes.specs.Polls.{PollState, held, member, number_of, poll_goes, poll_hears, poll_takes}
pub use Rattle.record_votes.specs.Voting.{Line, Member, crashed, heard, opened, shut, took}
pub use Rattle.record_votes.specs.declared.member_numbers.MemberNumber.{MemberNumber}
pub use Rattle.record_votes.specs.declared.member_numbers.MemberNumber.TheVariants.{First, Second, Third}
pub use Rattle.run_media.specs.Media.{IsBack, Media}
pub use Rattle.std.proofs.Common.{Bool, List, [], ap, append_assoc, arith, false, inl, inr, length, map, refl, subst, suc, sym, take, true, zero, zero-add, ℕ, ◌++◌, ◌+◌, ◌<◌, ◌∙◌, ◌∷◌, ◌≡◌, ◌≢◌, ◌≤◌}
pub use Rattle.std.proofs.lemmas.Bool.{and_parts, cases_Bool, eqb-true}
pub use Rattle.std.proofs.lemmas.Bool.Decides.{nat_tests}
pub use Rattle.std.proofs.lemmas.List.{append-nil, length-append, length-take-le}
pub use Rattle.std.proofs.lemmas.Option.{slice_get-get_or, slice_get_within}
pub use Rattle.std.specs.Option.{unwrap_or}
pub use Rattle.std.specs.Prelude.{Err, IfOk, IfSome, IsTrue, None, Ok, OnOk, Option, Result, Some, cond, drop, if◌then◌else◌, is_err, is_some, nat_le, nat_lt, not, slice_get, slice_index, ◌&&◌, ◌-◌, ◌==◌, ◌||◌, ◌⊎◌}
pub use Rattle.version_store.specs.Entries.{Log, effects_of}
pub use Rattle.version_store.specs.Storage.{effects_found, entries, log_of, log_or_none, storage}
pub use Rattle.version_store.specs.StoreWords.{effects_in, medium_of}
pub use Rattle.version_store.specs.declared.stores.Store.{Store}
pub use Rattle.vote_courier.proofs.PlaceLemmas.{Called, adds-join, adds-still, and-false, down-called, flags-on, goes-kept, heard-due, keeps, keeps-join, keeps-still, keeps-wider, leads, member-on, never-false, noted, sent-called, taken-is, there, took-called, turns-kept}
pub use Rattle.vote_courier.proofs.QuietLemmas.{behind-parts, not-behind}
pub use Rattle.vote_courier.proofs.StationLemmas.{downs-legal, gates-legal, notes-legal, takes-legal, ticks-legal}
pub use Rattle.vote_courier.specs.Couriers.{CourierParts, HasSent, tick_moment, with_entry}
pub use Rattle.vote_courier.specs.Legal.{IsOfDowns, JustVoters, WasNotOpened, base_of, is_node, most_of}
pub use Rattle.vote_courier.specs.Places.{Adds, IsReady, Keeps, OnlyChanges, PollIsAt, PollIsNew, Tells}
pub use Rattle.vote_courier.specs.Stations.{Stands, hall_of, owes, trace_of}
pub use Rattle.vote_courier.specs.Walks.{Base, Hall, life_of, life_with, member_heard, member_took, start_hall, step, walk, world_of}
unfoldable pub use Rattle.vote_courier.specs.Walks.{walk_from}
pub use Rattle.vote_members.specs.Closings.{Grows, HasGrown, IsDurable, IsFallenFor, LeavesFront, LeavesLog, LeavesPrefix}
pub use Rattle.vote_members.specs.Costs.{cost_of, costs}
pub use Rattle.vote_run.specs.Ends.{Between, Came, Follows, HasCome, HasEnded, HasGoneRound, HasTicked, IsOver, TicksAreWanted, all_held, any_node}
pub use Rattle.vote_run.specs.Fares.{AllFare, FareOn, Fares, FaresWell, FellLater, HasPaid, Lengthens, NeverOpened}
pub use Rattle.vote_run.specs.Lasts.{AllLast, KeepsWhole, LastOn, Lasts, LosesNothing, medium_in}
pub use Rattle.vote_run.specs.MemberTurns.{Begins, EndsAs, HearsMoment, IsDown, IsGated, IsReopened, MayTurn, TakesCopy, Turns, Wants, moment_of}
pub use Rattle.vote_run.specs.Members.{AllSat, HaveSat, MayAllTurn, SitAll, all_late, is_late, is_member, late, some_late, some_wants, wants}
pub use Rattle.vote_run.specs.Rounds.{PollsAre, PollsGo, PollsTurned, PollsWent, is_poll}
pub use Rattle.vote_run.specs.Seats.{MemberIsAt, MemberIsDown, MemberOwes}
pub use Rattle.vote_run.specs.Sittings.{SatOn, ShowsCause, Sits, SitsDown, SitsFallen, SitsUp}
pub use Rattle.vote_run.specs.declared.limits.Limits.{Limits}
pub use Rattle.vote_run.specs.declared.limits.Next.{Next}
pub use Rattle.vote_run.specs.declared.limits.Next.TheVariants.{Over, Round, Ticked}
pub use Rattle.vote_run.specs.declared.members.Members.{Members}
pub use Rattle.vote_run.specs.declared.seats.Seat.{Seat}
pub use Rattle.vote_run.specs.declared.seats.Seat.TheVariants.{Fallen, Up, Wanting}
pub use Rattle.world_core.specs.Counts.{down_cause}
pub use Rattle.world_core.specs.Legal.{Idle, asked_of, fates_of, is_behind, is_within}
pub use Rattle.world_core.specs.Walks.{Flags, flagged, is_down, names, opened_log, own, with_due}
pub use Rattle.world_core.specs.declared.entries.Entry.{Entry}
pub use Rattle.world_core.specs.declared.entries.Entry.TheVariants.{Crash, Down, Gate, Go, Hear, Learn, Take, Tick}
