use Rattle.std.proofs.Common.{◌≡◌, drop}
use Rattle.commit_watch.specs.Lists.{moved_at}
use Rattle.watch_cases.proofs.watches.is_among.Given as goal

-- it stands among those that are left, or not at all
abbrev pub invariant-loop-moved : goal.invariant-loop-moved
invariant-loop-moved g l = moved_at l.name l.list ≡ moved_at l.name (drop l.moved-index l.list)
