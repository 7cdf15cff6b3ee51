use Rattle.medium_port.proofs.Names.{rules, ◌≡◌, List, subst, None, Slot, MediumName, slot_of}
use Rattle.medium_port.proofs.SlotLemmas.{just_blank}
use Rattle.medium_port.proofs.memory_shelves.MemoryShelfShelf.take.Goals as goal
use Rattle.medium_port.proofs.memory_shelves.MemoryShelfShelf.take.Goals.{then-not-contains+in-Some+in_default, then-not-contains+in-None+in_default-make_blank, else-not-contains}

pub returns-in-Some-make_blank-clause-content : goal.returns-in-Some-make_blank-clause-content
returns-in-Some-make_blank-clause-content c told =
    let s = c.args.self.now in
    let name : MediumName = record { kind = c.args.kind; number = c.args.number; volume = c.args.volume } in
    just_blank s.pages s.zero (slot_of s.slots.items name) c.in-Some-make_blank.medium (subst (λ (l : List Slot). slot_of l name ≡ None) c.as_slice.ensures.value c.in-None.ensures) s.size s.zeros c.in-Some-make_blank.ensures.blank

pub returns-clause-failed : goal.returns-clause-failed
returns-clause-failed c = elim c.if-not-contains.branch [ then-not-contains+in-Some+in_default w ↦ search rules | then-not-contains+in-None+in_default-make_blank w ↦ search rules | else-not-contains w ↦ search rules ]
