use Rattle.archive_store.proofs.Names.{◌≡◌, ◌++◌, map, filter, not, take, given_up, is_floor}
use Rattle.archive_store.proofs.joins.joined_with.Given as goal

-- the marks so far
abbrev pub invariant-loop-mark : goal.invariant-loop-mark
invariant-loop-mark l = l.marks.items ≡ given_up (map (λ log. log.items) l.logs) l.last ++ filter (λ f. not (is_floor f)) (take l.mark-index l.last)
