use Rattle.folder_look.proofs.Names.{◌∙◌, ◌++◌, [], ◌∷◌, take, ap, sym}
use Rattle.folder_look.proofs.Appends.{each, take-one}
use Rattle.folder_look.specs.Drawing.{bar_text}
use Rattle.folder_look.proofs.drawing.push_versions_bars.Goals as goal

pub loop-version-preserved : goal.loop-version-preserved
loop-version-preserved c =
    let i = c.loop-version.version-index in
    let x = c.version-item.result in
    each (bar_text c.args.axis.now.keys) c.args.versions.now i x c.args.out.now.items c.loop-version.out.items c.push_bar.new.out.items
    (take-one c.args.versions.now i x c.loop-version-test.true ∙ ap (λ y. take i c.args.versions.now ++ y ∷ []) (sym c.version-item.is)) c.loop-version.invariant c.in_ok-push_bar.ensures
