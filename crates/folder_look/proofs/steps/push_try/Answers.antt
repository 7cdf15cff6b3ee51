use Rattle.folder_look.proofs.Appends.{before}
use Rattle.folder_look.proofs.steps.push_try.Goals as goal

pub returns : goal.returns
returns c =
    let r = c.push_end_of.result in
    before r c.args.out.now.items c.push_parts.new.out.items _ _ _ c.in_ok-push_parts.ensures
    (before r c.push_parts.new.out.items c.push_steps.new.out.items _ _ _ c.in_ok-push_steps.ensures
    (before r c.push_steps.new.out.items c.extend_from_slice.new.self.items _ _ _ c.in_ok-extend_from_slice.ensures.items
    c.push_end_of.ensures))
