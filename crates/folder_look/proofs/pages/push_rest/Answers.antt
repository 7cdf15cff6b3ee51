use Rattle.folder_look.proofs.Appends.{before, slice}
use Rattle.folder_look.proofs.pages.push_rest.Goals as goal

pub returns : goal.returns
returns c =
    let r = c.extend_from_slice.result in
    before r c.args.out.now.items c.push_attempts.new.out.items _ _ _ c.in_ok-push_attempts.ensures
    (before r c.push_attempts.new.out.items c.push_histories.new.out.items _ _ _ c.in_ok-push_histories.ensures
    (before r c.push_histories.new.out.items c.push_all_files.new.out.items _ _ _ c.in_ok-push_all_files.ensures
    (slice r c.push_all_files.new.out.items _ _ c.extend_from_slice.ensures.items)))
