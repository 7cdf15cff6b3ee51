use Rattle.held_shelf.proofs.Names.{slot_of, refl}
use Rattle.held_shelf.proofs.HeldLemmas.{content-kept, content-moved}
use Rattle.held_shelf.proofs.held_shelves.HeldShelfShelf.take.Goals as goal

pub returns-in-Ok-clause-others_content : goal.returns-in-Ok-clause-others_content
returns-in-Ok-clause-others_content g c told name ne =
    let r = g.S.Medium.Medium.reads in
    let l = g.S.Medium.Medium.may_leave in
    let h = g.S.Shelf.holds in
    let m = g.S.Shelf.may_hold in
    let old = c.args.self.now in
    content-kept r l (slot_of old.slots.items name) (h old.below name) (h c.take.new.self name) (m old.below name) (m c.take.new.self name) (c.take.ensures.others_content told name ne)

pub returns-in-Err-clause-others_content : goal.returns-in-Err-clause-others_content
returns-in-Err-clause-others_content g c told name ne =
    let r = g.S.Medium.Medium.reads in
    let l = g.S.Medium.Medium.may_leave in
    let old = c.args.self.now in
    content-moved r l (λ b. g.S.Shelf.holds b name) (λ b. g.S.Shelf.may_hold b name) (slot_of old.slots.items name) (slot_of c.fail-in-Err.new.self.slots.items name)
    old.below c.take.new.self c.fail-in-Err.new.self.below (rw c.fail-in-Err.ensures.stays.1 refl) c.fail-in-Err.ensures.stays.0 (c.take.ensures.others_content told name ne)

pub returns-in-Err-clause-err_content : goal.returns-in-Err-clause-err_content
returns-in-Err-clause-err_content g c told name =
    let r = g.S.Medium.Medium.reads in
    let l = g.S.Medium.Medium.may_leave in
    let old = c.args.self.now in
    content-moved r l (λ b. g.S.Shelf.holds b name) (λ b. g.S.Shelf.may_hold b name) (slot_of old.slots.items name) (slot_of c.fail-in-Err.new.self.slots.items name)
    old.below c.take.new.self c.fail-in-Err.new.self.below (rw c.fail-in-Err.ensures.stays.1 refl) c.fail-in-Err.ensures.stays.0 (c.in-Err.ensures.err_content told name)
