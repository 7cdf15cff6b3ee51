-- The names that the proofs of this crate cite, passed on from one place. Declares nothing.
pub use Rattle.commit_record.specs.declared.states.RecordState.{RecordState}
pub use Rattle.commit_record.specs.declared.states.RecordState.TheVariants.{Decided, Unknown}
pub use Rattle.effect_form.specs.declared.effects.Effect.{Effect}
pub use Rattle.message_core.proofs.NodeLemmas.{same_is, same_node-refl}
pub use Rattle.message_core.specs.Tallies.{count, numbered}
pub use Rattle.message_form.specs.Posts.{Post, posts}
pub use Rattle.message_form.specs.declared.messages.Message.{Message}
pub use Rattle.message_form.specs.declared.turns.Out.{Out}
pub use Rattle.pseudo_time.proofs.ListLemmas.{every-append, every-has, has-left}
pub use Rattle.pseudo_time.specs.Lists.{Every, Has}
pub use Rattle.pseudo_time.specs.Nodes.{broker, is_broker, repository, same_node}
pub use Rattle.pseudo_time.specs.Order.{same_stamp}
pub use Rattle.pseudo_time.specs.StampParts.{StampParts}
pub use Rattle.pseudo_time.specs.declared.decisions.Decision.{Decision}
pub use Rattle.pseudo_time.specs.declared.nodes.NodeId.{NodeId}
pub use Rattle.pseudo_time.specs.declared.nodes.NodeKind.{NodeKind}
pub use Rattle.record_votes.proofs.PollLemmas.{Two, held-stays, takes-hears, two-hold, voter-member, votes_of}
pub use Rattle.record_votes.specs.Members.{Given, begin_by, book, close_by, owed, quiet, row}
unfoldable pub use Rattle.record_votes.specs.Members.{on_message}
pub use Rattle.record_votes.specs.Polls.{PollGiven, PollState, asked, ballot, begin_to, begun_heard, heard_by, heard_from, held, held_of, ignored, member, number_of, outstanding, to_member, unless_held, vote_heard, voter_at, voter_of, wish_for, with_ballot}
unfoldable pub use Rattle.record_votes.specs.Polls.{poll_goes, poll_takes}
pub use Rattle.record_votes.specs.Voting.{Line, Member, all_effects, entered, new_poll, run, shut, took}
pub use Rattle.record_votes.specs.declared.ballots.Ballot.{Ballot}
pub use Rattle.record_votes.specs.declared.ballots.Wish.{Wish}
pub use Rattle.record_votes.specs.declared.member_numbers.MemberNumber.{MemberNumber}
pub use Rattle.record_votes.specs.declared.member_numbers.MemberNumber.TheVariants.{First, Second, Third}
pub use Rattle.repository_log.specs.Logs.{decision_of, is_commit, record_from, record_of}
unfoldable pub use Rattle.repository_log.specs.Logs.{first_begin}
pub use Rattle.std.proofs.Common.{Bool, List, [], ap, arith, false, inl, inr, length, map, refl, subst, suc, sym, true, zero, zero-add, ℕ, ◌*◌, ◌++◌, ◌+◌, ◌<◌, ◌∙◌, ◌∷◌, ◌≡◌, ◌≤◌}
pub use Rattle.std.proofs.Math.Bool.{and-false}
pub use Rattle.std.proofs.lemmas.Bool.{and_parts, eq-eqb, eqb-false, eqb-true, le-leb}
pub use Rattle.std.proofs.lemmas.List.{append-nil, append_assoc, length-append}
pub use Rattle.std.specs.Prelude.{None, Option, Some, cond, if◌then◌else◌, is_some, min, nat_le, not, slice_get, ◌&&◌, ◌==◌, ◌≢◌, ◌⊎◌}
pub use Rattle.stream_port.specs.declared.fates.Fate.{Fate}
pub use Rattle.vote_law.specs.Smooth.{AreVotes, HasQuorum, HoldAll, IsCalm, IsFit, IsPlain, IsUp, TicksForPolls, WishAlike, is_vote_effect}
pub use Rattle.vote_traces.proofs.CauseLemmas.{HaveLines, begin-stays, flagged-up, numbered-within, start-causes, walk-causes}
pub use Rattle.vote_traces.specs.Legal.{Legal, Rule, base_of}
unfoldable pub use Rattle.vote_traces.specs.Legal.{Meets}
pub use Rattle.vote_traces.specs.Walks.{Base, Hall, life_of, line_at, log_at, member_took, no_line, poll_took, start_hall, step, voter_life, walk, world_of}
unfoldable pub use Rattle.vote_traces.specs.Walks.{walk_from}
pub use Rattle.world_core.specs.Legal.{Idle, IsReleased, MayGo, MayTake, fates_of, is_within}
pub use Rattle.world_core.specs.Walks.{Flags, Sending, World, flagged, names, opened_log, with_due}
pub use Rattle.world_core.specs.declared.entries.Entry.{Entry}
pub use Rattle.world_core.specs.declared.entries.Entry.TheVariants.{Crash, Down, Gate, Go, Hear, Learn, Take, Tick}
