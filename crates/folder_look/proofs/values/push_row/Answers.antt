use Rattle.folder_look.proofs.Appends.{before, slice}
use Rattle.folder_look.proofs.values.push_row.Goals as goal

pub returns : goal.returns
returns c =
    let r = c.extend_from_slice.result in
    before r c.args.out.now.items c.push_parts.new.out.items _ _ _ c.in_ok-push_parts.ensures
    (before r c.push_parts.new.out.items c.push_last.new.out.items _ _ _ c.in_ok-push_last.ensures
    (before r c.push_last.new.out.items c.push_parts-2.new.out.items _ _ _ c.in_ok-push_parts-2.ensures
    (before r c.push_parts-2.new.out.items c.push_undecided.new.out.items _ _ _ c.in_ok-push_undecided.ensures
    (slice r c.push_undecided.new.out.items _ _ c.extend_from_slice.ensures.items))))
