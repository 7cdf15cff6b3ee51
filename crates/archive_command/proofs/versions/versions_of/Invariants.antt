use Rattle.archive_command.proofs.Names.{◌≡◌, reverse, take, versions_of}
use Rattle.archive_command.proofs.versions.versions_of.Given as goal

abbrev pub invariant-loop-mark : goal.invariant-loop-mark
invariant-loop-mark l = l.versions.items ≡ versions_of l.object (reverse (take l.mark-index l.marks))
