use Rattle.folder_look.proofs.Appends.{each, take-one}
use Rattle.folder_look.specs.MediaText.{spoiled_page}
use Rattle.folder_look.proofs.media_text.push_spoiled.Goals as goal

pub loop-page-preserved : goal.loop-page-preserved
loop-page-preserved c =
    let i = c.loop-page.page-index in
    each spoiled_page c.args.pages.now i _ c.args.out.now.items c.loop-page.out.items c.push_page.new.out.items (take-one c.args.pages.now i 0 c.loop-page-test.true) c.loop-page.invariant c.in_ok-push_page.ensures
