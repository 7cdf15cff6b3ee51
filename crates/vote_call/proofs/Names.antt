-- The names that the proofs of this crate cite, passed on from one place. Declares nothing.
pub use Rattle.pseudo_time.specs.Nodes.{broker, same_node}
pub use Rattle.pseudo_time.specs.declared.down_causes.DownCause.{DownCause}
pub use Rattle.pseudo_time.specs.declared.nodes.NodeId.{NodeId}
pub use Rattle.record_votes.specs.Polls.{PollState, held, member, number_of}
pub use Rattle.record_votes.specs.Voting.{Line, Member, new_poll, opened}
pub use Rattle.record_votes.specs.declared.member_numbers.MemberNumber.{MemberNumber}
pub use Rattle.record_votes.specs.declared.member_numbers.MemberNumber.TheVariants.{First, Second, Third}
pub use Rattle.std.proofs.Common.{Bool, List, [], ap, arith, drop, false, inl, inr, length, map, refl, subst, suc, sym, take, true, zero, ℕ, ◌++◌, ◌+◌, ◌<◌, ◌^◌, ◌∙◌, ◌∷◌, ◌≡◌, ◌≤◌}
pub use Rattle.std.proofs.lemmas.Bool.Decides.{nat_tests}
pub use Rattle.std.proofs.lemmas.List.{append-nil}
pub use Rattle.std.proofs.lemmas.Option.{same_Some, slice_get_within}
pub use Rattle.std.specs.Option.{unwrap_or}
pub use Rattle.std.specs.Prelude.{Err, IsOk, IsTrue, None, Ok, OnOk, Option, Result, Some, cond, if◌then◌else◌, is_some, max, nat_lt, not, slice_get, ◌⊎◌}
pub use Rattle.stream_port.specs.Causes.{Rose, RoseBy}
pub use Rattle.stream_port.specs.declared.fates.Asked.{Asked}
pub use Rattle.version_store.specs.Filling.{KeepsPages, StaysClean, filling}
pub use Rattle.version_store.specs.Storage.{storage}
pub use Rattle.vote_call.specs.Media.{AreKept, HaveOpened, IsKept as IsKeptBack, SomeOpened, given_back, handed_back, medium_of, opening_of}
pub use Rattle.vote_call.specs.Polls.{line_of, lines_of, polls_from, standing_from, standings_of}
pub use Rattle.vote_call.specs.Starts.{BeginsOver, BegunFor, Fall, Falls, HasBegun, LastFor, SeatsAll, SeatsAs, opened_for, seat_for}
pub use Rattle.vote_call.specs.declared.member_media.MemberMedia.{MemberMedia}
pub use Rattle.vote_call.specs.declared.openings.Openings.{Openings}
pub use Rattle.vote_form.specs.declared.poll_lines.PollLine.{PollLine}
pub use Rattle.vote_run.proofs.EndLemmas.{not-err}
pub use Rattle.vote_run.proofs.EntryLemmas.{down-more, none-own, out-down, out-stays, own-still, was-opened}
pub use Rattle.vote_run.proofs.FareLemmas.{clean-same, fares-along, grows-same}
pub use Rattle.vote_run.proofs.PlaceLemmas.{and-false, down-called, flags-on, keeps, keeps-still, leads, never-false}
pub use Rattle.vote_run.proofs.StationLemmas.{begins, downs-legal}
pub use Rattle.vote_run.specs.Clocked.{tick_moments}
pub use Rattle.vote_run.specs.Closings.{Grows, LeavesLog}
pub use Rattle.vote_run.specs.Costs.{costs}
pub use Rattle.vote_run.specs.Couriers.{CourierParts, with_entry}
pub use Rattle.vote_run.specs.Fares.{AllFare, FareOn, Fares, FaresWell, FellLater, HasPaid, Lengthens, NeverOpened, ShutAs}
pub use Rattle.vote_run.specs.Lasts.{AllLast, HasLonger, KeepsWhole, Lasts, LosesNothing, medium_in}
pub use Rattle.vote_run.specs.Legal.{IsOfDowns, JustVoters, Legal, WasNotOpened, base_of, is_node}
unfoldable pub use Rattle.vote_run.specs.Legal.{Meets}
pub use Rattle.vote_run.specs.Media.{IsUntouched, Media}
pub use Rattle.vote_run.specs.Members.{MayAllTurn, some_wants, wants}
pub use Rattle.vote_run.specs.Opening.{Opening}
pub use Rattle.vote_run.specs.Openings.{HasOpened, IsAsItWas, IsShutFor, IsWanting, log_in}
pub use Rattle.vote_run.specs.Places.{Keeps, OnlyChanges, PollIsAt, PollIsNew, Tells}
pub use Rattle.vote_run.specs.Rounds.{PollsAre, PollsGo, PollsWent, is_poll}
pub use Rattle.vote_run.specs.Seats.{MemberIsAt}
pub use Rattle.vote_run.specs.Sittings.{ShowsCause, Sits, SitsDown, SitsFallen, SitsUp}
pub use Rattle.vote_run.specs.Stations.{Stands, hall_of, trace_of}
pub use Rattle.vote_run.specs.Voters.{opened_voters}
pub use Rattle.vote_run.specs.Walks.{Base, Hall, line_at, log_at, start_hall, step, walk}
unfoldable pub use Rattle.vote_run.specs.Walks.{walk_from}
pub use Rattle.vote_run.specs.declared.members.Members.{Members}
pub use Rattle.vote_run.specs.declared.seats.Seat.{Seat}
pub use Rattle.vote_run.specs.declared.seats.Seat.TheVariants.{Fallen, Up, Wanting}
pub use Rattle.world_core.specs.Counts.{down_cause, is_tick, tick_count}
pub use Rattle.world_core.specs.Legal.{asked_of, fates_of, is_within}
pub use Rattle.world_core.specs.Walks.{Flags, is_down, opened_log, own}
pub use Rattle.world_core.specs.declared.entries.Entry.{Entry}
pub use Rattle.world_core.specs.declared.entries.Entry.TheVariants.{Crash, Down, Gate, Go, Hear, Learn, Take, Tick}
