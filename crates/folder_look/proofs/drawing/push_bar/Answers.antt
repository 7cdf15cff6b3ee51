use Rattle.folder_look.proofs.Appends.{before, slice}
use Rattle.folder_look.proofs.drawing.push_bar.Goals as goal

pub returns : goal.returns
returns c =
    let r = c.extend_from_slice-2.result in
    before r c.args.out.now.items c.extend_from_slice.new.self.items _ _ _ c.in_ok-extend_from_slice.ensures.items
    (before r c.extend_from_slice.new.self.items c.push_state.new.out.items _ _ _ c.in_ok-push_state.ensures
    (before r c.push_state.new.out.items c.push_version_mark.new.out.items _ _ _ c.in_ok-push_version_mark.ensures
    (before r c.push_version_mark.new.out.items c.push_version_place.new.out.items _ _ _ c.in_ok-push_version_place.ensures
    (before r c.push_version_place.new.out.items c.push_value_cut.new.out.items _ _ _ c.in_ok-push_value_cut.ensures
    (slice r c.push_value_cut.new.out.items _ _ c.extend_from_slice-2.ensures.items)))))
