-- The names that the proofs of this crate cite, passed on from one place. Declares nothing.
pub use Rattle.commit_record.specs.States.{States, expiry, listed_at, settled}
pub use Rattle.pseudo_time.specs.Lists.{Every, Has}
pub use Rattle.pseudo_time.specs.Nodes.{repository}
unfoldable pub use Rattle.pseudo_time.specs.Order.{same_stamp}
pub use Rattle.pseudo_time.specs.StampParts.{StampParts, stamp_cmp}
pub use Rattle.pseudo_time.specs.TimeParts.{TimeParts, time_cmp}
pub use Rattle.pseudo_time.specs.declared.decisions.Decision.{Decision}
pub use Rattle.pseudo_time.specs.declared.nodes.NodeId.{NodeId}
pub use Rattle.repository_core.specs.Accounts.{AgreeBut, AgreeWith, AreOfOneCall, AreSince, IsOpen}
pub use Rattle.repository_core.specs.Cores.{Core, given}
pub use Rattle.repository_core.specs.Hands.{Hand, HasSameLog, Mind, note, now, send}
pub use Rattle.repository_core.specs.Hearing.{asks, expire_all, expire_as, expired, waited}
unfoldable pub use Rattle.repository_core.specs.Hearing.{ask_again, expire, on_moment}
pub use Rattle.repository_core.specs.Logs.{read_by, wrote}
pub use Rattle.repository_core.specs.Rows.{hold, learn_as, read_as, read_known, reread, row, tells, unhold, waits_for, write_as}
unfoldable pub use Rattle.repository_core.specs.Rows.{on_learn, on_read, release, tell_askers}
pub use Rattle.repository_core.specs.Turns.{Given, Hearing, Input, Learning, Taking, hand_at, hand_turn, mind_of}
unfoldable pub use Rattle.repository_core.specs.Turns.{gives}
pub use Rattle.repository_draft.specs.Answers.{after_read, after_write, read_step}
pub use Rattle.repository_draft.specs.Effect.{Effect}
unfoldable pub use Rattle.repository_draft.specs.History.{settle_of}
pub use Rattle.repository_draft.specs.Mark.{Mark}
pub use Rattle.repository_draft.specs.Mark.TheVariants.{Settle}
pub use Rattle.repository_draft.specs.ObjectId.{ObjectId}
pub use Rattle.repository_draft.specs.Ranges.{AreHeld}
pub use Rattle.repository_draft.specs.ReadStep.{ReadStep}
pub use Rattle.repository_draft.specs.Value.{Value}
pub use Rattle.repository_draft.specs.WriteStep.{WriteStep}
pub use Rattle.repository_draft.specs.declared.waits.Asker.{Asker}
pub use Rattle.repository_draft.specs.declared.waits.HeldRead.{HeldRead}
pub use Rattle.repository_log.proofs.AgreeLemmas.{agree-begin, agree-decide, agree-expire, agree-learn, opened-agrees}
pub use Rattle.repository_log.proofs.ExpiryLemmas.{expiries-are, sorted-expiries}
pub use Rattle.repository_log.proofs.LogLemmas.{unknown-unsettled}
pub use Rattle.repository_log.specs.Expiries.{due, expiries, expiry_of, is_due}
pub use Rattle.repository_log.specs.Logs.{HasSameRecords, IsUnknown, as_decision, began, begun, is_commit, known, marks, record_of}
unfoldable pub use Rattle.repository_log.specs.Logs.{decision_of, first_begin}
pub use Rattle.repository_log.specs.Lookups.{BooksShow, restored}
pub use Rattle.std.proofs.Common.{Bool, List, [], ap, arith, cond, drop, false, get_or, inl, inr, length, map, refl, reverse, subst, sym, true, ℕ, ◌++◌, ◌+◌, ◌<◌, ◌∙◌, ◌∷◌, ◌≡◌, ◌≤◌}
pub use Rattle.std.proofs.lemmas.List.{drop_all, drop_more, reverse-reverse}
pub use Rattle.std.specs.List.{filter}
pub use Rattle.std.specs.Ordering.{is_eq, is_lt, match_ordering}
pub use Rattle.std.specs.Prelude.{IsTrue, None, OnOk, Option, Some, T, if◌then◌else◌, nat_le, not, ◌&&◌, ◌==◌, ◌||◌}
pub use Rattle.std.specs.declared.cmp.Ordering.{Ordering}
pub use Rattle.std.specs.declared.cmp.Ordering.TheVariants.{Equal, Greater, Less}
