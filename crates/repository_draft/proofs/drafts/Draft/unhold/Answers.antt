use Rattle.repository_draft.proofs.Names.{subst, sym, IsObject, AreHeld}
use Rattle.repository_draft.proofs.HeldLemmas.{every-remove}
use Rattle.repository_draft.proofs.drafts.Draft.unhold.Goals as goal

pub invariant_of-self : goal.invariant_of-self
invariant_of-self c = (c.self.invariant.0, subst AreHeld (sym c.remove.ensures.entries) (every-remove (λ e. IsObject e.1.object) _ c.self.inside.held.entries c.self.invariant.1), c.self.invariant.2, c.self.invariant.3)
