-- The names that the proofs of this crate cite, passed on from one place. Declares nothing.
pub use Rattle.atomic_table.proofs.Lists.{at_set, at_snoc, exchanged, one_turn, set_again}
pub use Rattle.atomic_table.specs.Seated.{TableId}
pub use Rattle.atomic_table.specs.Table.{Act, Allows, Final, Joins, Seen, Splits, State, Valid, carried_after, gives, keeps, opening, put_back, rest, step, stepped, takes}
pub use Rattle.atomic_table.specs.declared.shared.Seat.{Seat}
pub use Rattle.seat_lock.specs.Passes.{AreNew, Belongs, Covers, Knows, newcomer}
pub use Rattle.seat_lock.specs.Rule.{AtHome, AtStage, Fits, IsOneOf, IsOut, Kept, at_ticket, has_ticket, holding, holds_slot, same, ticket_at, total, waits, weight}
pub use Rattle.seat_lock.specs.Steps.{Seated, all_parts, dealing, dealt_out, drew, drew_if, founder, gathered, informed, learned, left, looked, nobody, note, noted, posted, staged, tested, ticket_of}
pub use Rattle.seat_lock.specs.Story.{Begins, HasOwn, Meaning, entries_of, first_part, longer, meaning, other_parts, owned_in}
pub use Rattle.seat_lock.specs.Words.{CarriesOn, IsInside, Known, base_in, fresh, knows, own_in, owner_in, shown}
pub use Rattle.seat_lock.specs.declared.views.Part.{Part}
pub use Rattle.seat_lock.specs.declared.views.Stage.{Stage}
pub use Rattle.seat_lock.specs.declared.views.Stage.TheVariants.{Holding, Idle, Waiting}
pub use Rattle.seat_lock.specs.declared.views.View.{View}
pub use Rattle.std.proofs.Common.{All, Bool, List, Some, [], ap, append-nil, append_assoc, arith, cond, eq-eqb, eqb, false, get_or, inl, inr, length, length-append, map, nat_le, ne_eqb, refl, replicate, rules, set, slice_index_or, subst, suc, sym, take, true, vec_capacity, vec_len, zero, ℕ, ⊎_elim, ◌%◌, ◌++◌, ◌+◌, ◌-◌, ◌<◌, ◌==◌, ◌∙◌, ◌∷◌, ◌≡◌, ◌≢◌, ◌≤◌}
pub use Rattle.std.proofs.Math.Nat.{mod-add-mod}
pub use Rattle.std.proofs.lemmas.Grind.{common_steps}
pub use Rattle.std.proofs.lemmas.List.{length-map, nil_from_length}
pub use Rattle.std.proofs.lemmas.List.Elements.{All-append, All-nil, filter-append}
pub use Rattle.std.specs.Prelude.{AllPairs, IfNone, filter}
pub use Rattle.std.specs.declared.snapshot.Snapshot.{Snapshot}
