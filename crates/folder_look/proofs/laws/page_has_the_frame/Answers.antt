use Rattle.folder_look.proofs.PageLemmas.{folder-page}
use Rattle.folder_look.proofs.laws.page_has_the_frame.Goals as goal

pub returns : goal.returns
returns c = folder-page
