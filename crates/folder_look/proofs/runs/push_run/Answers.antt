use Rattle.folder_look.proofs.Appends.{before, slice}
use Rattle.folder_look.proofs.runs.push_run.Goals as goal

pub returns : goal.returns
returns c =
    let r = c.extend_from_slice.result in
    before r c.args.out.now.items c.push_run_head.new.out.items _ _ _ c.in_ok-push_run_head.ensures
    (before r c.push_run_head.new.out.items c.push_summary.new.out.items _ _ _ c.in_ok-push_summary.ensures
    (before r c.push_summary.new.out.items c.push_tries.new.out.items _ _ _ c.in_ok-push_tries.ensures
    (before r c.push_tries.new.out.items c.push_acts.new.out.items _ _ _ c.in_ok-push_acts.ensures
    (slice r c.push_acts.new.out.items _ _ c.extend_from_slice.ensures.items))))
