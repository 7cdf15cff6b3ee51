use Rattle.folder_look.proofs.Appends.{before, slice}
use Rattle.folder_look.proofs.pages.push_tally.Goals as goal

pub returns : goal.returns
returns c =
    let r = c.extend_from_slice-2.result in
    before r c.args.out.now.items c.extend_from_slice.new.self.items _ _ _ c.in_ok-extend_from_slice.ensures.items
    (before r c.extend_from_slice.new.self.items c.push_cell.new.out.items _ _ _ c.in_ok-push_cell.ensures
    (before r c.push_cell.new.out.items c.push_act_cells.new.out.items _ _ _ c.in_ok-push_act_cells.ensures
    (slice r c.push_act_cells.new.out.items _ _ c.extend_from_slice-2.ensures.items)))
