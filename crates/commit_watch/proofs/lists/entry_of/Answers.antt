use Rattle.std.proofs.Common.{ap, sym, ◌∙◌, Some}
use Rattle.commit_watch.proofs.ListLemmas.{at-found, at-gap}
use Rattle.commit_watch.proofs.lists.entry_of.Goals as goal

pub returns-then-is_at : goal.returns-then-is_at
returns-then-is_at g c =
    let found = c.is_at.ensures.found c.if-is_at.true in
    let w = c.index-moved-place.result in
    ap Some c.index-moved-place.is ∙ sym (at-found c.args.moved.now c.place_of-place.result c.args.object w found.0 c.place_of-place.ensures.front (found.1 w))

pub returns-else-is_at : goal.returns-else-is_at
returns-else-is_at g c =
    let at = c.place_of-place.ensures in
    sym (at-gap c.args.moved.now c.place_of-place.result c.args.object c.requires at.within at.front at.back (c.is_at.ensures.other c.if-is_at.false))
