use Rattle.folder_look.proofs.Appends.{before}
use Rattle.folder_look.proofs.runs.push_act_rows.Goals as goal

pub returns : goal.returns
returns c =
    let r = c.push_tries.result in
    before r c.args.out.now.items c.push_act_head.new.out.items _ _ _ c.in_ok-push_act_head.ensures
    c.push_tries.ensures
