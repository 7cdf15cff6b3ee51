-- The names that the proofs of this crate cite, passed on from one place. Declares nothing.
pub use Rattle.commit_record.specs.States.{States, begin_step, begun, expiry, listed_at, settled}
pub use Rattle.commit_record.specs.declared.states.RecordState.{RecordState}
pub use Rattle.commit_record.specs.declared.states.RecordState.TheVariants.{Decided, Unknown}
pub use Rattle.effect_form.specs.declared.effects.Effect.{Effect}
pub use Rattle.message_form.specs.declared.messages.Message.{Message}
pub use Rattle.message_form.specs.declared.turns.Out.{Out}
pub use Rattle.object_history.specs.History.{or_else}
pub use Rattle.pseudo_time.proofs.ListLemmas.{has-either, has-left}
pub use Rattle.pseudo_time.proofs.OrderLemmas.{same_stamp-is, same_stamp-of, same_stamp-self}
pub use Rattle.pseudo_time.specs.Lists.{Every, Has}
pub use Rattle.pseudo_time.specs.Nodes.{broker, is_broker}
unfoldable pub use Rattle.pseudo_time.specs.Order.{same_stamp}
pub use Rattle.pseudo_time.specs.StampParts.{StampParts, stamp_cmp}
pub use Rattle.pseudo_time.specs.declared.decisions.Decision.{Decision}
pub use Rattle.pseudo_time.specs.declared.nodes.NodeId.{NodeId}
pub use Rattle.pseudo_time.specs.declared.nodes.NodeKind.{NodeKind}
pub use Rattle.record_votes.specs.Books.{IsBook, settled_all}
pub use Rattle.record_votes.specs.Members.{Given, begin_by, book, close_by, decides, owed, own, quiet, row}
unfoldable pub use Rattle.record_votes.specs.Members.{on_message, on_moment}
pub use Rattle.record_votes.specs.Polls.{PollGiven, PollState, ballot, begun_heard, heard_by, heard_from, held, held_of, ignored, member, number_of, poll_goes, poll_hears, vote_heard, voter_at, voter_by, voter_of, with_ballot}
unfoldable pub use Rattle.record_votes.specs.Polls.{poll_takes}
pub use Rattle.record_votes.specs.declared.member_numbers.MemberNumber.{MemberNumber}
pub use Rattle.record_votes.specs.declared.member_numbers.MemberNumber.TheVariants.{First, Second, Third}
pub use Rattle.repository_log.proofs.ExpiryLemmas.{expiries-are, sorted-expiries}
pub use Rattle.repository_log.proofs.LogLemmas.{from-begin, from-decided, from-none, from-unknown, record-decide}
pub use Rattle.repository_log.specs.Expiries.{expiries, expiry_of, is_due}
pub use Rattle.repository_log.specs.Logs.{IsUnknown, began, began_by, begun as begun_stamps, is_commit, known, marks, record_from, record_of}
unfoldable pub use Rattle.repository_log.specs.Logs.{decision_of, first_begin}
pub use Rattle.repository_log.specs.Lookups.{BooksShow, early_or, restored}
pub use Rattle.std.proofs.Common.{Bool, List, [], ap, cond, drop, false, get_or, inl, inr, length, map, refl, subst, suc, sym, take, true, zero, ℕ, ◌++◌, ◌+◌, ◌<◌, ◌∙◌, ◌∷◌, ◌≡◌}
pub use Rattle.std.proofs.lemmas.Bool.{eqb-true, false≢true, true≢false}
pub use Rattle.std.proofs.lemmas.List.{append-nil, append_assoc, map-append, reverse-append, take-append-drop, take_more}
pub use Rattle.std.specs.FinMap.Entries.{below_all, is_sorted}
pub use Rattle.std.specs.List.{filter}
pub use Rattle.std.specs.Option.{option_copied}
pub use Rattle.std.specs.Ordering.{is_eq, is_lt}
pub use Rattle.std.specs.Prelude.{None, Option, Some, T, if◌then◌else◌, reverse, ◌&&◌, ◌==◌, ◌≢◌, ◌⊎◌}
