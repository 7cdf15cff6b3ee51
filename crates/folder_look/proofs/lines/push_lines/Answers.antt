use Rattle.folder_look.proofs.Appends.{before, slice}
use Rattle.folder_look.proofs.lines.push_lines.Goals as goal

pub returns : goal.returns
returns c =
    let r = c.extend_from_slice.result in
    before r c.args.out.now.items c.push_lines_head.new.out.items _ _ _ c.in_ok-push_lines_head.ensures
    (before r c.push_lines_head.new.out.items c.push_each.new.out.items _ _ _ c.in_ok-push_each.ensures
    (slice r c.push_each.new.out.items _ _ c.extend_from_slice.ensures.items))
