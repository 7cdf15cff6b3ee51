use Rattle.wire_core.proofs.Names.{rules, sym, ◌∙◌, Some, found_same}
use Rattle.wire_core.proofs.NodeMaps.{puts_of, noted-one}
use Rattle.wire_core.proofs.stories.note.Goals as goal

pub returns : goal.returns
returns c =
    let es = c.args.nodes.now.entries in
    let w = c.after_own.result in
    let fs = (c.get_mut.follows.lender w).entries in
    noted-one c.args.last c.args.ticks c.args.entry.now es fs c.in-Some.node c.in-Some-get_mut.flags.now w c.in-Some.ensures (puts_of c.in-Some.node (Some w) es fs ((c.get_mut.follows.holds w).3 (search rules)).0) (sym (found_same es c.in-Some.node) ∙ sym c.in-Some-get_mut.ensures.value) c.after_own.ensures
