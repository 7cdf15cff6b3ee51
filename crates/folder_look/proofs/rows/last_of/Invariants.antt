use Rattle.folder_look.proofs.Names.{◌≡◌, None, drop}
use Rattle.std.specs.Prelude.{option_copied}
use Rattle.folder_look.specs.Rows.{last_from}
use Rattle.folder_look.proofs.rows.last_of.Given as goal

-- a later one counts
abbrev pub invariant-loop-version : goal.invariant-loop-version
invariant-loop-version l = last_from (option_copied l.last) (drop l.version-index l.versions) ≡ last_from None l.versions
