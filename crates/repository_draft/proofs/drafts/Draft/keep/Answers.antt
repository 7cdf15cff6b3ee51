use Rattle.repository_draft.proofs.Names.{subst, sym, IsObject, time_cmp, HeldRead, AreHeld}
use Rattle.repository_draft.proofs.HeldLemmas.{every-insert}
use Rattle.repository_draft.proofs.drafts.Draft.keep.Goals as goal

pub invariant_of-self : goal.invariant_of-self
invariant_of-self c = (c.self.invariant.0, subst AreHeld (sym (c.in_err-insert.ensures.err)) c.self.invariant.1, c.self.invariant.2, c.self.invariant.3)

pub invariant_of-self-2 : goal.invariant_of-self-2
invariant_of-self-2 c = (
  c.self.invariant.0,
  subst AreHeld (sym c.in_ok-insert.ensures.entries)
      (every-insert (λ (x : HeldRead). IsObject x.object) time_cmp c.self.inside.held.entries c.args.at c.args.held c.requires c.self.invariant.1),
  c.self.invariant.2,
  c.self.invariant.3,
)
