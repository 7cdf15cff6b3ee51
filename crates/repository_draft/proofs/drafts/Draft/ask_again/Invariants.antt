use Rattle.repository_draft.proofs.Names.{◌≡◌, asks}
use Rattle.repository_draft.proofs.drafts.Draft.ask_again.Given as goal

-- those that are left give what all give from before
abbrev pub invariant-loop-stamp : goal.invariant-loop-stamp
invariant-loop-stamp l = asks l.stamp-iterator l.self ≡ asks l.initial.stamp-iterator l.initial.self
