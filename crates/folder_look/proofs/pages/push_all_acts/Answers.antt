use Rattle.folder_look.proofs.Names.{◌∙◌, ◌++◌, [], ◌∷◌, take, ap, sym}
use Rattle.folder_look.proofs.Appends.{each, take-one}
use Rattle.folder_look.specs.Shown.{parts_of}
use Rattle.folder_look.specs.Page.{acts_text}
use Rattle.folder_look.proofs.pages.push_all_acts.Goals as goal

pub loop-medium-preserved : goal.loop-medium-preserved
loop-medium-preserved c =
    let i = c.loop-medium.medium-index in
    let x = c.medium-item.result in
    each (acts_text (parts_of c.args.shown.now)) c.args.media.now i x c.args.out.now.items c.loop-medium.out.items c.push_acts.new.out.items
    (take-one c.args.media.now i x c.loop-medium-test.true ∙ ap (λ y. take i c.args.media.now ++ y ∷ []) (sym c.medium-item.is)) c.loop-medium.invariant c.in_ok-push_acts.ensures
