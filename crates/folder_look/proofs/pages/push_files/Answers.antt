use Rattle.folder_look.proofs.Appends.{before}
use Rattle.folder_look.proofs.pages.push_files.Goals as goal

pub returns : goal.returns
returns c = before c.push_table.result c.args.out.now.items c.extend_from_slice.new.self.items _ _ _ c.in_ok-extend_from_slice.ensures.items c.push_table.ensures
