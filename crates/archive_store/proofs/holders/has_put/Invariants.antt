use Rattle.archive_store.proofs.Names.{◌≡◌, drop, has_start}
use Rattle.archive_store.proofs.holders.has_put.Given as goal

-- it stands among those that are left, or not at all
abbrev pub invariant-loop-mark : goal.invariant-loop-mark
invariant-loop-mark l = has_start l.object l.start l.log ≡ has_start l.object l.start (drop l.mark-index l.log)
