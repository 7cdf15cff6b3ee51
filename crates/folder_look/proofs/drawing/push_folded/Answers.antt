use Rattle.folder_look.proofs.Appends.{before, slice}
use Rattle.folder_look.proofs.drawing.push_folded.Goals as goal

pub returns : goal.returns
returns c =
    let r = c.extend_from_slice.result in
    before r c.args.out.now.items c.push_fold.new.out.items _ _ _ c.in_ok-push_fold.ensures
    (before r c.push_fold.new.out.items c.push_rows.new.out.items _ _ _ c.in_ok-push_rows.ensures
    (slice r c.push_rows.new.out.items _ _ c.extend_from_slice.ensures.items))
