use Rattle.folder_look.proofs.Appends.{before}
use Rattle.folder_look.proofs.values.push_values.Goals as goal

pub returns : goal.returns
returns c =
    let r = c.push_back.result in
    before r c.args.out.now.items c.extend_from_slice.new.self.items _ _ _ c.in_ok-extend_from_slice.ensures.items
    (before r c.extend_from_slice.new.self.items c.push_front.new.out.items _ _ _ c.in_ok-push_front.ensures
    c.push_back.ensures)
