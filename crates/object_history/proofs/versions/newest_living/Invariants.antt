use Rattle.object_history.proofs.Names.{◌≡◌, true, reverse, is_living, last_of, rising}
use Rattle.object_history.proofs.versions.newest_living.Given as goal

-- what is found is among the versions that are left, which rise
abbrev pub invariant-loop-version : goal.invariant-loop-version
invariant-loop-version l = record {
  found :
      last_of (is_living l.settles l.end) (reverse l.version-iterator.iter.rest.now)
      ≡ last_of (is_living l.settles l.end) (reverse l.initial.version-iterator.iter.rest.now);
  rising : rising (reverse l.version-iterator.iter.rest.now) ≡ true;
}
