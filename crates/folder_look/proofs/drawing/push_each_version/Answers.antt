use Rattle.folder_look.proofs.Names.{◌∙◌, ◌++◌, [], ◌∷◌, take, ap, sym}
use Rattle.folder_look.proofs.Appends.{each, take-one}
use Rattle.folder_look.specs.Shown.{parts_of}
use Rattle.folder_look.specs.Drawing.{version_text}
use Rattle.folder_look.proofs.drawing.push_each_version.Goals as goal

pub loop-version-preserved : goal.loop-version-preserved
loop-version-preserved c =
    let i = c.loop-version.version-index in
    let x = c.version-item.result in
    each (version_text (parts_of c.args.shown.now)) c.args.versions.now i x c.args.out.now.items c.loop-version.out.items c.push_version.new.out.items
    (take-one c.args.versions.now i x c.loop-version-test.true ∙ ap (λ y. take i c.args.versions.now ++ y ∷ []) (sym c.version-item.is)) c.loop-version.invariant c.in_ok-push_version.ensures
