use Rattle.folder_look.proofs.Appends.{before}
use Rattle.folder_look.proofs.drawing.push_version_end.Goals as goal

pub returns : goal.returns
returns c =
    let r = c.push_parts.result in
    before r c.args.out.now.items c.push_state.new.out.items _ _ _ c.in_ok-push_state.ensures
    (before r c.push_state.new.out.items c.push_older.new.out.items _ _ _ c.in_ok-push_older.ensures
    (before r c.push_older.new.out.items c.push_settled.new.out.items _ _ _ c.in_ok-push_settled.ensures
    c.push_parts.ensures))
