use Rattle.folder_look.proofs.Appends.{slice}
use Rattle.folder_look.proofs.styles.push_bars.Goals as goal

pub returns : goal.returns
returns c =
    let r = c.extend_from_slice.result in
    slice r c.args.out.now.items _ _ c.extend_from_slice.ensures.items
