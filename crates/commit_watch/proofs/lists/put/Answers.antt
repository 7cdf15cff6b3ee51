use Rattle.std.proofs.Common.{◌∙◌}
use Rattle.commit_watch.proofs.ListLemmas.{put-found, put-gap, when-ok}
use Rattle.commit_watch.proofs.lists.put.Goals as goal

pub returns-then-is_at-clause-items : goal.returns-then-is_at-clause-items
returns-then-is_at-clause-items g c =
    let found = c.is_at.ensures.found c.if-is_at.true in
    put-found c.args.moved.now.items c.as_slice.result.now c.as_slice-2.result.now c.place_of-place.result c.args.change c.args.change c.as_slice.ensures.value c.as_slice-2.ensures.value found.0 c.place_of-place.ensures.front (found.1 c.args.change)

pub returns-else-is_at-clause-items : goal.returns-else-is_at-clause-items
returns-else-is_at-clause-items g c =
    let at = c.place_of-place.ensures in
    c.insert.ensures.items ∙ when-ok c.insert.result _ _ (c.insert.ensures.succeeds c.requires.room)
    ∙ put-gap c.args.moved.now.items c.as_slice.result.now c.as_slice-2.result.now c.place_of-place.result c.args.change c.as_slice.ensures.value c.as_slice-2.ensures.value c.requires.rising at.within at.front at.back (c.is_at.ensures.other c.if-is_at.false)
