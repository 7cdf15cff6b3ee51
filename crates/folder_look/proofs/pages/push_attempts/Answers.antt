use Rattle.folder_look.proofs.Appends.{before}
use Rattle.folder_look.proofs.pages.push_attempts.Goals as goal

pub returns : goal.returns
returns c =
    let r = c.push_all_acts.result in
    before r c.args.out.now.items c.extend_from_slice.new.self.items _ _ _ c.in_ok-extend_from_slice.ensures.items
    (before r c.extend_from_slice.new.self.items c.push_try_key.new.out.items _ _ _ c.in_ok-push_try_key.ensures
    (before r c.push_try_key.new.out.items c.push_left_tries.new.out.items _ _ _ c.in_ok-push_left_tries.ensures
    (before r c.push_left_tries.new.out.items c.push_lines.new.out.items _ _ _ c.in_ok-push_lines.ensures
    c.push_all_acts.ensures)))
