use Rattle.folder_look.proofs.Names.{◌∙◌, ◌++◌, ap}
use Rattle.folder_look.specs.Shown.{parts_of}
use Rattle.folder_look.specs.Values.{values_text}
use Rattle.folder_look.proofs.Appends.{before}
use Rattle.folder_look.proofs.pages.push_first.Goals as goal

pub returns : goal.returns
returns c =
    let r = c.push_left.result in
    before r c.args.out.now.items c.push_wrong.new.out.items _ _ _ c.in_ok-push_wrong.ensures
    (before r c.push_wrong.new.out.items c.push_counts.new.out.items _ _ _ c.in_ok-push_counts.ensures
    (before r c.push_counts.new.out.items c.push_values.new.out.items _ _ _
    (c.in_ok-push_values.ensures ∙ ap (λ rows. c.push_counts.new.out.items ++ values_text (parts_of c.args.shown.now) rows) c.as_slice.ensures.value)
    c.push_left.ensures))
