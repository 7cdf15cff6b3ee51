-- The names that the proofs of this crate cite, passed on from one place. Declares nothing.
pub use Rattle.held_shelf.specs.Slots.{IsPlace, NowHas, is_same_name, slot_of}
pub use Rattle.held_shelf.specs.declared.slots.Slot.{Slot}
pub use Rattle.medium_port.specs.declared.shelves.MediumName.{MediumName}
pub use Rattle.std.proofs.Common.{List, [], ap, arith, false, get_or, length, refl, slice_set, subst, suc, sym, true, zero, ℕ, ⊎_elim, ◌++◌, ◌<◌, ◌∙◌, ◌∷◌, ◌≡◌, ◌≢◌}
pub use Rattle.std.proofs.lemmas.Bool.{and_parts, cases_Bool, cond-false, cond-true, eq-eqb, eqb-true, false≢true}
pub use Rattle.std.specs.Prelude.{Bool, None, Option, Some, if◌then◌else◌, ◌↔◌, ◌&&◌, ◌==◌}
