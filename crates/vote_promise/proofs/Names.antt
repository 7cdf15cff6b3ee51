-- The names that the proofs of this crate cite, passed on from one place. Declares nothing.
pub use Rattle.effect_form.specs.declared.effects.Effect.{Effect}
pub use Rattle.message_core.proofs.NodeLemmas.{same_is, same_node-refl}
pub use Rattle.pseudo_time.specs.Lists.{Every, Has}
pub use Rattle.pseudo_time.specs.Nodes.{is_broker, repository, same_node}
pub use Rattle.pseudo_time.specs.declared.down_causes.DownCause.{DownCause}
pub use Rattle.pseudo_time.specs.declared.nodes.NodeId.{NodeId}
pub use Rattle.record_votes.specs.Polls.{held, member}
pub use Rattle.record_votes.specs.Voting.{IsDecided, Line, Member, all_effects}
pub use Rattle.record_votes.specs.declared.member_numbers.MemberNumber.{MemberNumber}
pub use Rattle.run_media.specs.Media.{Media}
pub use Rattle.std.proofs.Common.{Bool, Err, List, [], ap, arith, drop, false, inl, inr, length, map, refl, subst, suc, sym, take, true, zero, ℕ, ◌*◌, ◌++◌, ◌+◌, ◌<◌, ◌∙◌, ◌∷◌, ◌≡◌, ◌≢◌, ◌≤◌}
pub use Rattle.std.proofs.lemmas.List.{append-nil, append_assoc, length-map, take-append-drop}
pub use Rattle.std.specs.Prelude.{IsTrue, None, Ok, Option, Result, Some, cond, if◌then◌else◌, is_some, nat_le, not, ◌&&◌, ◌⊎◌}
pub use Rattle.stream_port.specs.declared.fates.Asked.{Asked}
pub use Rattle.stream_port.specs.declared.fates.Fate.{Fate}
pub use Rattle.vote_law.proofs.CauseLemmas.{at-if, causes-front, decisions-caused, flagged-up}
pub use Rattle.vote_law.proofs.WalkLemmas.{meets-parts, walk-append}
pub use Rattle.vote_law.specs.Legal.{IsOfDowns, Legal, Rule, WasNotOpened, base_of, hall_after, is_node}
unfoldable pub use Rattle.vote_law.specs.Legal.{Meets}
pub use Rattle.vote_law.specs.Walks.{Base, Hall, line_at, log_at, member_on, no_line, start_hall, step, walk}
unfoldable pub use Rattle.vote_law.specs.Walks.{walk_from}
pub use Rattle.vote_promise.specs.Clauses.{AllHold, AreCounted, AreDownFor, AreSound, HasEnded, HasRunOut, HaveCausesOnMedia, HoldsDecide, IsKept, IsSmooth, IsSound, KeepsLog, RestoresLogs, StandOnMedia, TwoHold, gated_log, open_effects}
pub use Rattle.world_core.specs.Legal.{fates_of, is_within, post_of}
pub use Rattle.world_core.specs.Walks.{Flags, Sending, flagged, is_down, names, own}
pub use Rattle.world_core.specs.declared.entries.Entry.{Entry}
pub use Rattle.world_core.specs.declared.entries.Entry.TheVariants.{Crash, Down, Gate, Go, Hear, Learn, Take, Tick}
pub use Rattle.world_core.specs.declared.traces.Trace.{Trace}
