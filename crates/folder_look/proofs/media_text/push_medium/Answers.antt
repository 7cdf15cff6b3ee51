use Rattle.folder_look.proofs.Appends.{before}
use Rattle.folder_look.proofs.media_text.push_medium.Goals as goal

pub returns : goal.returns
returns c =
    let r = c.push_pages.result in
    before r c.args.out.now.items c.extend_from_slice.new.self.items _ _ _ c.in_ok-extend_from_slice.ensures.items
    (before r c.extend_from_slice.new.self.items c.push_name.new.out.items _ _ _ c.in_ok-push_name.ensures
    (before r c.push_name.new.out.items c.extend_from_slice-2.new.self.items _ _ _ c.in_ok-extend_from_slice-2.ensures.items
    (before r c.extend_from_slice-2.new.self.items c.push_role.new.out.items _ _ _ c.in_ok-push_role.ensures
    (before r c.push_role.new.out.items c.extend_from_slice-3.new.self.items _ _ _ c.in_ok-extend_from_slice-3.ensures.items
    (before r c.extend_from_slice-3.new.self.items c.push_state.new.out.items _ _ _ c.in_ok-push_state.ensures
    c.push_pages.ensures)))))
