use Rattle.object_history.proofs.Names.{◌≡◌, reverse, option_copied, is_living, joined, last_of}
use Rattle.object_history.proofs.versions.greatest_living.Given as goal

-- what was found above the versions that are left, or else among them
abbrev pub invariant-loop-version : goal.invariant-loop-version
invariant-loop-version l =
    joined (option_copied l.last) (last_of (is_living l.settles l.end) (reverse l.version-iterator.iter.rest.now))
    ≡ last_of (is_living l.settles l.end) (reverse l.initial.version-iterator.iter.rest.now)
