use Rattle.held_shelf.proofs.Names.{◌≡◌, ℕ, ◌<◌, get_or, false, Slot, is_same_name}
use Rattle.held_shelf.proofs.slots.place_of.Given as goal

abbrev pub invariant-loop-index : goal.invariant-loop-index
invariant-loop-index g l = record {
  past : (k : ℕ) (d : Slot g.row.M.Denot) → k < l.index → is_same_name (get_or l.slots k d).name l.name ≡ false;
}
