use Rattle.repository_draft.proofs.Names.{◌≡◌, ◌++◌, filter, same_stamp}
use Rattle.repository_draft.proofs.drafts.Draft.waiting.Given as goal

-- those so far and those that are left
abbrev pub invariant-loop-at : goal.invariant-loop-at
invariant-loop-at l = l.waiting.items ++ filter (λ e. same_stamp e.1.waits l.stamp) l.at-iterator ≡ filter (λ e. same_stamp e.1.waits l.stamp) l.initial.at-iterator
