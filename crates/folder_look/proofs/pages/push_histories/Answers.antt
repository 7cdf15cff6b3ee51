use Rattle.folder_look.proofs.Names.{ap}
use Rattle.folder_look.specs.Drawing.{all_rows}
use Rattle.folder_look.specs.Shown.{parts_of}
use Rattle.folder_look.proofs.Appends.{before, named-so}
use Rattle.folder_look.proofs.pages.push_histories.Goals as goal

pub returns : goal.returns
returns c =
    let r = c.push_all_rows.result in
    before r c.args.out.now.items c.extend_from_slice.new.self.items _ _ _ c.in_ok-extend_from_slice.ensures.items
    (before r c.extend_from_slice.new.self.items c.push_history_key.new.out.items _ _ _ c.in_ok-push_history_key.ensures
    (named-so r c.push_history_key.new.out.items c.push_all_rows.new.out.items _ _
    (ap (λ ks. all_rows (parts_of c.args.shown.now) ks c.args.rows.now) c.in_ok-axis.ensures) c.push_all_rows.ensures))
