-- The names that the proofs of this crate cite, passed on from one place. Declares nothing.
pub use Rattle.message_core.specs.Tallies.{numbered}
pub use Rattle.message_form.specs.Posts.{Post, post, posts}
pub use Rattle.message_form.specs.declared.messages.Message.{Message}
pub use Rattle.message_form.specs.declared.turns.Out.{Out}
pub use Rattle.pseudo_time.proofs.ListLemmas.{every-append, has-either, has-left, has-right}
pub use Rattle.pseudo_time.specs.Lists.{Every, Has}
pub use Rattle.pseudo_time.specs.Nodes.{broker, is_broker, repository, same_node}
unfoldable pub use Rattle.pseudo_time.specs.Order.{same_stamp}
pub use Rattle.pseudo_time.specs.declared.nodes.NodeId.{NodeId}
pub use Rattle.pseudo_time.specs.declared.nodes.NodeKind.{NodeKind}
pub use Rattle.record_votes.specs.Members.{Given, begin_by, book, close_by, decides, owed, own, quiet, row}
unfoldable pub use Rattle.record_votes.specs.Members.{on_message, on_moment}
pub use Rattle.record_votes.specs.Polls.{PollGiven, PollState, asked, asked_again, ballot, begin_to, begun_heard, heard_by, heard_from, held, ignored, member, number_of, outstanding, unless_held, vote_heard, voter_at, voter_of, wish_for, with_ballot}
unfoldable pub use Rattle.record_votes.specs.Polls.{poll_goes, poll_hears, poll_takes}
pub use Rattle.record_votes.specs.Voting.{Crashes, Delivered, Event, Gates, Goes, Hears, IsDecided, Line, Logs, Member, Polled, all_effects, crashed, delivered, ended, entered, heard, is_same_voter, left, no_logs, post_at, run, shut, to_poll, to_voter, took, with_member, with_poll, with_sent}
pub use Rattle.record_votes.specs.declared.member_numbers.MemberNumber.{MemberNumber}
pub use Rattle.record_votes.specs.declared.member_numbers.MemberNumber.TheVariants.{First, Second, Third}
pub use Rattle.repository_log.specs.Logs.{begun, begun_by, first_said, record_from, record_of}
unfoldable pub use Rattle.repository_log.specs.Logs.{decision_of, first_begin}
pub use Rattle.std.proofs.Common.{Bool, List, [], ap, arith, drop, false, inl, inr, length, map, refl, subst, suc, sym, take, true, zero, ℕ, ◌++◌, ◌+◌, ◌<◌, ◌∙◌, ◌∷◌, ◌≡◌, ◌≤◌}
pub use Rattle.std.proofs.lemmas.Bool.{and_parts, eqb-true, le-leb}
pub use Rattle.std.proofs.lemmas.List.{append-nil, append_assoc, map-append, reverse-append, take-append-drop}
pub use Rattle.std.specs.Prelude.{None, Option, Some, cond, if◌then◌else◌, is_some, nat_le, reverse, ◌&&◌, ◌==◌}
pub use Rattle.stream_port.specs.declared.fates.Asked.{Asked}
pub use Rattle.stream_port.specs.declared.fates.Fate.{Fate}
pub use Rattle.vote_traces.specs.Legal.{JustVoters, Legal, Rule, base_of, hall_after}
unfoldable pub use Rattle.vote_traces.specs.Legal.{Meets}
pub use Rattle.vote_traces.specs.Walks.{Base, Hall, leaving, life_of, line_at, log_at, member_heard, member_on, member_took, no_line, owed_on, poll_heard, poll_on, poll_took, start_hall, step, voter_life, walk, world_of}
unfoldable pub use Rattle.vote_traces.specs.Walks.{walk_from}
pub use Rattle.world_core.specs.Legal.{HasGone, HasHeard, IsReleased, MayTake, Numbered, asked_of, fates_of, is_within, post_of, times_taken}
pub use Rattle.world_core.specs.Walks.{Flags, Sending, World, flagged, last_after, names, opened_log, sent_by}
pub use Rattle.world_core.specs.declared.entries.Entry.{Entry}
pub use Rattle.world_core.specs.declared.entries.Entry.TheVariants.{Crash, Down, Gate, Go, Hear, Learn, Take, Tick}
pub use Rattle.world_core.specs.declared.traces.Trace.{Trace}
