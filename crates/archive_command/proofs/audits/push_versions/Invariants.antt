use Rattle.archive_command.proofs.Names.{◌≡◌, ◌++◌, take, flat_map, told_line}
use Rattle.std.specs.FinMap as finite
use Rattle.archive_command.proofs.audits.push_versions.Given as goal

abbrev pub invariant-loop-version : goal.invariant-loop-version
invariant-loop-version l =
    l.out.items ≡ l.initial.out.items ++ flat_map (told_line (λ p. finite.get l.settles p) l.archived.archive l.archived.volumes.items) (take l.version-index l.versions)
