use Rattle.object_history.proofs.Names.{◌≡◌, true, reverse, some_version, rising}
use Rattle.object_history.proofs.LookLemmas.{is_written}
use Rattle.object_history.proofs.plain.PlainHistories.has_put.Given as goal

-- none of the versions so far is the one, and those that are left rise where all do
abbrev pub invariant-loop-version : goal.invariant-loop-version
invariant-loop-version l = record {
  none :
      some_version (is_written l.self l.start l.value) (reverse l.version-iterator.iter.rest.now)
      ≡ some_version (is_written l.self l.start l.value) (reverse l.initial.version-iterator.iter.rest.now);
  rising : rising (reverse l.initial.version-iterator.iter.rest.now) ≡ true → rising (reverse l.version-iterator.iter.rest.now) ≡ true;
}
