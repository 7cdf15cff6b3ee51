use Rattle.folder_look.proofs.Names.{◌∙◌, ◌++◌, [], ◌∷◌, take, ap, sym}
use Rattle.folder_look.proofs.Appends.{each, take-one}
use Rattle.folder_look.specs.Shown.{parts_of}
use Rattle.folder_look.specs.Values.{value_text_of}
use Rattle.folder_look.proofs.values.push_rows.Goals as goal

pub loop-row-preserved : goal.loop-row-preserved
loop-row-preserved c =
    let i = c.loop-row.row-index in
    let x = c.row-item.result in
    each (value_text_of (parts_of c.args.shown.now)) c.args.rows.now i x c.args.out.now.items c.loop-row.out.items c.push_row.new.out.items
    (take-one c.args.rows.now i x c.loop-row-test.true ∙ ap (λ y. take i c.args.rows.now ++ y ∷ []) (sym c.row-item.is)) c.loop-row.invariant c.in_ok-push_row.ensures
