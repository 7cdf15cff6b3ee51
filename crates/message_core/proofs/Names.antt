-- The names that the proofs of this crate cite, passed on from one place. Declares nothing.
pub use Rattle.message_core.specs.Arrivals.{IsFront}
pub use Rattle.message_core.specs.Flights.{AllEmpty, Call, Pass, Send, Shut, State, Take, going_to, next_number, passed, put, puts, sent, sent_at_once, sent_later, start, step, taken, waiting, was_shut}
unfoldable pub use Rattle.message_core.specs.Flights.{flown}
pub use Rattle.message_core.specs.Parts.{FlightParts, held_at, parts_of, queue_at, state_of}
pub use Rattle.message_core.specs.Queues.{Grew, held_in, held_seen, queue_in, queues_seen}
pub use Rattle.message_core.specs.Sound.{AllHaveText, AllWent, AllWentTo, HasText, IsSound, WentTo}
pub use Rattle.message_core.specs.Tallies.{IsDue, Posted, Tallied, Tally, blank_tally, came, count, noted, numbered, took, waits_for}
unfoldable pub use Rattle.message_core.specs.Tallies.{all_noted}
pub use Rattle.message_core.specs.declared.letters.HeldCopy.{HeldCopy}
pub use Rattle.message_core.specs.declared.letters.Letter.{Letter}
pub use Rattle.message_form.specs.Messages.{IsMessage, message_bytes}
pub use Rattle.pseudo_time.specs.Nodes.{kind_number, same_node}
pub use Rattle.pseudo_time.specs.declared.nodes.NodeId.{NodeId}
pub use Rattle.std.proofs.Common.{Bool, List, [], ap, arith, cond, drop, false, get_or, inl, inr, length, map, nat_le, nat_lt, not, refl, replicate, rules, subst, suc, sym, take, true, zero, ℕ, ◌&&◌, ◌++◌, ◌+◌, ◌-◌, ◌<◌, ◌==◌, ◌||◌, ◌∙◌, ◌∷◌, ◌≡◌, ◌≤◌, ◌⊎◌}
pub use Rattle.std.proofs.Math.Path.{fun_ext}
pub use Rattle.std.proofs.Math.Seq.{take-append_seam, take-suc}
pub use Rattle.std.proofs.lemmas.Bool.{and_parts, eqb-true, le-leb, leb-true}
pub use Rattle.std.proofs.lemmas.Bool.Decides.{nat_tests}
pub use Rattle.std.proofs.lemmas.List.{append-nil, append_assoc, length-append, map-append}
pub use Rattle.std.proofs.lemmas.Option.{same_Some, slice_get-get_or, slice_get_past, slice_get_within}
pub use Rattle.std.specs.BTreeMap.{is_at}
pub use Rattle.std.specs.Global.{Vec}
pub use Rattle.std.specs.List.{filter, list_any}
pub use Rattle.std.specs.Map.{lookup}
pub use Rattle.std.specs.Option.{option_map, unwrap_or}
pub use Rattle.std.specs.Ordering.{is_eq, nat_cmp}
pub use Rattle.std.specs.Prelude.{Err, IsTrue, None, Ok, OnErr, OnOk, Option, Result, Some, if◌then◌else◌, is_some, slice_get, ◌↔◌}
pub use Rattle.std.specs.declared.collections.VecDeque.{VecDeque}
pub use Rattle.stream_port.specs.Fates.{copies_of}
pub use Rattle.stream_port.specs.declared.fates.Fate.{Fate}
