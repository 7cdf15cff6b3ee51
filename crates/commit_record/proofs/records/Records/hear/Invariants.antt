use Rattle.std.proofs.Common.{◌≡◌, drop}
use Rattle.commit_record.proofs.DueLemmas.{settle_each}
use Rattle.commit_record.proofs.records.Records.hear.Given as goal

-- those that are left settle the records as all settle those from before
abbrev pub invariant-loop-stamp : goal.invariant-loop-stamp
invariant-loop-stamp l = settle_each l.self (drop l.stamp-index l.stamp-items) ≡ settle_each l.fn.self l.stamp-items
