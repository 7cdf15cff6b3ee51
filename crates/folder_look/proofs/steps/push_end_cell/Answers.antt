use Rattle.folder_look.proofs.Appends.{before, slice}
use Rattle.folder_look.proofs.steps.push_end_cell.Goals as goal

pub returns : goal.returns
returns c =
    let r = c.extend_from_slice-3.result in
    before r c.args.out.now.items c.extend_from_slice.new.self.items _ _ _ c.in_ok-extend_from_slice.ensures.items
    (before r c.extend_from_slice.new.self.items c.push_end_class.new.out.items _ _ _ c.in_ok-push_end_class.ensures
    (before r c.push_end_class.new.out.items c.extend_from_slice-2.new.self.items _ _ _ c.in_ok-extend_from_slice-2.ensures.items
    (before r c.extend_from_slice-2.new.self.items c.push_end.new.out.items _ _ _ c.in_ok-push_end.ensures
    (slice r c.push_end.new.out.items _ _ c.extend_from_slice-3.ensures.items))))
