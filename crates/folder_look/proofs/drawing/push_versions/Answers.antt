use Rattle.folder_look.proofs.Names.{◌∙◌, ◌++◌, ap, flat_map}
use Rattle.folder_look.specs.Drawing.{version_text}
use Rattle.folder_look.specs.Shown.{parts_of}
use Rattle.folder_look.proofs.Appends.{before}
use Rattle.folder_look.proofs.drawing.push_versions.Goals as goal

pub returns : goal.returns
returns c =
    let r = c.push_hidden.result in
    before r c.args.out.now.items c.extend_from_slice.new.self.items _ _ _ c.in_ok-extend_from_slice.ensures.items
    (before r c.extend_from_slice.new.self.items c.push_origin.new.out.items _ _ _ c.in_ok-push_origin.ensures
    (before r c.push_origin.new.out.items c.push_each_version.new.out.items _ _ _
    (c.in_ok-push_each_version.ensures ∙ ap (λ vs. c.push_origin.new.out.items ++ flat_map (version_text (parts_of c.args.shown.now)) vs) c.as_slice.ensures)
    (before r c.push_each_version.new.out.items c.extend_from_slice-2.new.self.items _ _ _ c.in_ok-extend_from_slice-2.ensures.items
    (before r c.extend_from_slice-2.new.self.items c.push_floor.new.out.items _ _ _ c.in_ok-push_floor.ensures
    c.push_hidden.ensures))))
