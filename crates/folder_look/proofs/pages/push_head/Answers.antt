use Rattle.folder_look.proofs.Appends.{before}
use Rattle.folder_look.proofs.pages.push_head.Goals as goal

pub returns : goal.returns
returns c =
    let r = c.push_parts-2.result in
    before r c.args.out.now.items c.push_parts.new.out.items _ _ _ c.in_ok-push_parts.ensures
    (before r c.push_parts.new.out.items c.push_style.new.out.items _ _ _ c.in_ok-push_style.ensures
    c.push_parts-2.ensures)
