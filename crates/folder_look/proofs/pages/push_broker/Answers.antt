use Rattle.folder_look.proofs.Names.{◌∙◌, ◌++◌, ap}
use Rattle.folder_look.specs.Runs.{log_text}
use Rattle.folder_look.specs.Shown.{parts_of}
use Rattle.folder_look.proofs.Appends.{before, slice}
use Rattle.folder_look.proofs.pages.push_broker.Goals as goal

pub returns : goal.returns
returns c =
    let r = c.extend_from_slice-3.result in
    before r c.args.out.now.items c.extend_from_slice.new.self.items _ _ _ c.in_ok-extend_from_slice.ensures.items
    (before r c.extend_from_slice.new.self.items c.push_name.new.out.items _ _ _ c.in_ok-push_name.ensures
    (before r c.push_name.new.out.items c.extend_from_slice-2.new.self.items _ _ _ c.in_ok-extend_from_slice-2.ensures.items
    (before r c.extend_from_slice-2.new.self.items c.push_log.new.out.items _ _ _
    (c.in_ok-push_log.ensures ∙ ap (λ es. c.extend_from_slice-2.new.self.items ++ log_text (parts_of c.args.shown.now) es) c.as_slice.ensures)
    (slice r c.push_log.new.out.items _ _ c.extend_from_slice-3.ensures.items))))
