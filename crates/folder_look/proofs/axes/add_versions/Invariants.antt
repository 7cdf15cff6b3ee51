use Rattle.folder_look.proofs.Names.{◌≡◌, drop, with_versions}
use Rattle.folder_look.proofs.axes.add_versions.Given as goal

-- those that are left are added to those so far
abbrev pub invariant-loop-version : goal.invariant-loop-version
invariant-loop-version l = with_versions l.axis.keys (drop l.version-index l.versions) ≡ with_versions l.fn.axis.keys l.versions
