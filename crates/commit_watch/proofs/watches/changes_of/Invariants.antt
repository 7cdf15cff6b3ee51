use Rattle.commit_watch.proofs.Names.{length, get, object_cmp, moved_at, stood}
use Rattle.commit_watch.proofs.ChangeLemmas.{Going}
use Rattle.commit_watch.proofs.watches.changes_of.Given as goal

-- what became of the objects that aren't left
abbrev pub invariant-loop-object : goal.invariant-loop-object
invariant-loop-object g l = Going (λ o s. stood g.R.WatchRule.first g.R.WatchRule.next l.floor o s (moved_at o l.moved)) l.moved (λ o. get object_cmp l.fn.standings o) (λ o. get object_cmp l.standings o) l.changes.items

abbrev pub decreases-loop-object : goal.decreases-loop-object
decreases-loop-object g l = length l.standings.entries
