use Rattle.archive_store.proofs.Names.{◌≡◌, ◌++◌, List, map, drop, Mark, all_firsts, given_up, Meets}
use Rattle.archive_store.proofs.joins.given_up.Given as goal

-- what was added, with what the logs that are left add
abbrev pub invariant-loop-log : goal.invariant-loop-log
invariant-loop-log l = (m : List Mark) × Meets l.met m × (l.marks.items ++ all_firsts l.floor m (map (λ log. log.items) (drop l.log-index l.logs)) ≡ given_up (map (λ log. log.items) l.logs) l.last)
