use Rattle.held_shelf.proofs.Names.{◌≡◌, List, sym, subst, Some, Slot, slot_of}
use Rattle.held_shelf.proofs.SlotLemmas.{slot_pushed, slot_kept}
use Rattle.held_shelf.proofs.slots.add.Goals as goal

pub returns-in-Ok-clause-now : goal.returns-in-Ok-clause-now
returns-in-Ok-clause-now g c =
    let old = c.args.slots.now.items in
    let new : Slot g.row.M.Denot = record { name = c.args.name; held = c.args.held } in
    let pushed = sym c.in-Ok.ensures.items in
    record {
      there = subst (λ (l : List (Slot g.row.M.Denot)). slot_of l c.args.name ≡ Some c.args.held) pushed (slot_pushed old new c.requires);
      others = λ other ne. subst (λ (l : List (Slot g.row.M.Denot)). slot_of l other ≡ slot_of old other) pushed (slot_kept old new other ne);
    }
