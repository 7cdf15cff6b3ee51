use Rattle.folder_look.proofs.Names.{contains, TimeParts, time_cmp, ◌≡◌, take}
use Rattle.folder_look.proofs.StartLemmas.{kept_at}
use Rattle.folder_look.proofs.rows.starts_of.Given as goal

-- the set has where those so far start
abbrev pub invariant-loop-version : goal.invariant-loop-version
invariant-loop-version l = (x : TimeParts) → contains time_cmp l.starts x ≡ kept_at (take l.version-index l.versions) x
