use Rattle.folder_look.proofs.Names.{◌∙◌, ◌++◌, ap}
use Rattle.folder_look.specs.Lines.{marks_text}
use Rattle.folder_look.specs.Shown.{parts_of}
use Rattle.folder_look.proofs.Appends.{before, slice}
use Rattle.folder_look.proofs.lines.push_broker.Goals as goal

pub returns : goal.returns
returns c =
    let r = c.extend_from_slice.result in
    before r c.args.out.now.items c.push_line_head.new.out.items _ _ _ c.in_ok-push_line_head.ensures
    (before r c.push_line_head.new.out.items c.push_marks.new.out.items _ _ _
    (c.in_ok-push_marks.ensures ∙ ap (λ es. c.push_line_head.new.out.items ++ marks_text (parts_of c.args.shown.now) es) c.as_slice.ensures)
    (slice r c.push_marks.new.out.items _ _ c.extend_from_slice.ensures.items))
