use Rattle.repository_draft.proofs.Names.{◌≡◌, ◌++◌, filter, same_stamp}
use Rattle.repository_draft.proofs.drafts.Draft.asking.Given as goal

-- those so far and those that are left
abbrev pub invariant-loop-asker : goal.invariant-loop-asker
invariant-loop-asker l = l.asking.items ++ filter (λ a. same_stamp a.stamp l.stamp) l.asker-iterator ≡ filter (λ a. same_stamp a.stamp l.stamp) l.initial.asker-iterator
