use Rattle.object_history.proofs.Names.{◌≡◌, true, reverse, is_firm, some_version, rising}
use Rattle.object_history.proofs.versions.Track.has_firm.Given as goal

-- none of the versions so far passes, and those that are left rise where all do
abbrev pub invariant-loop-version : goal.invariant-loop-version
invariant-loop-version l = record {
  none :
      some_version (λ v. is_firm l.settles l.other v.start) (reverse l.version-iterator.iter.rest.now)
      ≡ some_version (λ v. is_firm l.settles l.other v.start) (reverse l.initial.version-iterator.iter.rest.now);
  rising : rising (reverse l.initial.version-iterator.iter.rest.now) ≡ true → rising (reverse l.version-iterator.iter.rest.now) ≡ true;
}
