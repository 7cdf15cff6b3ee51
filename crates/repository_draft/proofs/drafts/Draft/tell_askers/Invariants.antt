use Rattle.repository_draft.proofs.Names.{◌≡◌, drop, tells}
use Rattle.repository_draft.proofs.drafts.Draft.tell_askers.Given as goal

-- those that are left give what all give from before
abbrev pub invariant-loop-asker : goal.invariant-loop-asker
invariant-loop-asker l = tells (drop l.asker-index l.asker-items) l.stamp l.committed l.self ≡ tells l.asker-items l.stamp l.committed l.initial.self
