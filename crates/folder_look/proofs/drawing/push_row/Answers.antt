use Rattle.folder_look.proofs.Appends.{before, slice}
use Rattle.folder_look.proofs.drawing.push_row.Goals as goal

pub returns : goal.returns
returns c =
    let r = c.extend_from_slice-2.result in
    before r c.args.out.now.items c.push_row_head.new.out.items _ _ _ c.in_ok-push_row_head.ensures
    (before r c.push_row_head.new.out.items c.push_bars.new.out.items _ _ _ c.in_ok-push_bars.ensures
    (before r c.push_bars.new.out.items c.extend_from_slice.new.self.items _ _ _ c.in_ok-extend_from_slice.ensures.items
    (before r c.extend_from_slice.new.self.items c.push_versions.new.out.items _ _ _ c.in_ok-push_versions.ensures
    (slice r c.push_versions.new.out.items _ _ c.extend_from_slice-2.ensures.items))))
