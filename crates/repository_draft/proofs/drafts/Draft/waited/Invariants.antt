use Rattle.repository_draft.proofs.Names.{◌≡◌, [], waited}
use Rattle.repository_draft.proofs.drafts.Draft.waited.Given as goal

-- those that are left are added to those so far
abbrev pub invariant-loop-held : goal.invariant-loop-held
invariant-loop-held l = waited l.self.number l.held-iterator l.waited.keys ≡ waited l.self.number l.initial.held-iterator []
