use Rattle.folder_look.proofs.Names.{◌∙◌, ◌++◌, ap, flat_map}
use Rattle.folder_look.specs.MediaText.{spoiled_page}
use Rattle.folder_look.proofs.Appends.{before, slice}
use Rattle.folder_look.proofs.media_text.push_strip.Goals as goal

pub returns : goal.returns
returns c =
    let r = c.extend_from_slice.result in
    before r c.args.out.now.items c.push_strip_head.new.out.items _ _ _ c.in_ok-push_strip_head.ensures
    (before r c.push_strip_head.new.out.items c.push_spoiled.new.out.items _ _ _
    (c.in_ok-push_spoiled.ensures ∙ ap (λ pages. c.push_strip_head.new.out.items ++ flat_map spoiled_page pages) c.as_slice.ensures)
    (before r c.push_spoiled.new.out.items c.push_damaged.new.out.items _ _ _ c.in_ok-push_damaged.ensures
    (slice r c.push_damaged.new.out.items _ _ c.extend_from_slice.ensures.items)))
