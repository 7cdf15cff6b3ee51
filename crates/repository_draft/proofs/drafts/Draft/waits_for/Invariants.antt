use Rattle.repository_draft.proofs.Names.{◌≡◌, waits_for}
use Rattle.repository_draft.proofs.drafts.Draft.waits_for.Given as goal

-- none so far waits for it
abbrev pub invariant-loop-held : goal.invariant-loop-held
invariant-loop-held l = waits_for l.stamp l.held-iterator ≡ waits_for l.stamp l.initial.held-iterator
