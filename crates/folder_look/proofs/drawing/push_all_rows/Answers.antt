use Rattle.folder_look.proofs.Appends.{before}
use Rattle.folder_look.proofs.drawing.push_all_rows.Goals as goal

pub returns : goal.returns
returns c =
    let r = c.push_back.result in
    before r c.args.out.now.items c.push_front.new.out.items _ _ _ c.in_ok-push_front.ensures
    c.push_back.ensures
