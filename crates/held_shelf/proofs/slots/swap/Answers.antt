use Rattle.held_shelf.proofs.Names.{◌≡◌, ◌∙◌, sym, ap, subst, true, Option, Some, Slot, is_same_name}
use Rattle.held_shelf.proofs.SlotLemmas.{same_is, slot_there, slot_set, slot_others}
use Rattle.held_shelf.proofs.slots.swap.Goals as goal

pub returns-clause-was : goal.returns-clause-was
returns-clause-was g c =
    let d = c.index_mut.result.now in
    slot_there c.args.slots.now.items c.args.name c.args.index d c.requires ∙ ap (λ (s : Slot g.row.M.Denot). Some s.held) (sym c.index_mut.ensures.value) ∙ ap (λ (o : Option g.row.M.Denot). Some o) (sym c.replace.ensures.value)

pub returns-clause-now : goal.returns-clause-now
returns-clause-now g c =
    let d = c.index_mut.result.now in
    let is = same_is d.name c.args.name (subst (λ (s : Slot g.row.M.Denot). is_same_name s.name c.args.name ≡ true) (sym c.index_mut.ensures.value) (c.requires.here d)) in
    let new : Slot g.row.M.Denot = record { name = d.name; held = c.replace.new.dest } in
    record {
      there = slot_set c.args.slots.now.items c.args.name c.args.index new c.requires is ∙ ap (λ (o : Option g.row.M.Denot). Some o) c.replace.ensures.after;
      others = λ other ne. slot_others c.args.slots.now.items c.args.name other c.args.index new c.requires is ne;
    }
