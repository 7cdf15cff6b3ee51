use Rattle.repository_draft.proofs.Names.{◌≡◌, subst, sym, filter, same_stamp, IsObject, AreHeld}
use Rattle.pseudo_time.proofs.ListLemmas.{every-left}
use Rattle.repository_draft.proofs.HeldLemmas.{every-filter}
use Rattle.repository_draft.proofs.drafts.Draft.waiting.Goals as goal

pub returns-clause-in_range : goal.returns-clause-in_range
returns-clause-in_range c =
    let all : c.into_iter-at-iterator.result ≡ c.self.inside.held.entries = c.into_iter-at-iterator.ensures.into_iter_gives.0 in
    every-left (λ e. IsObject e.1.object) c.loop-at.waiting.items _
    (subst AreHeld (sym c.loop-at.invariant)
    (subst (λ es. AreHeld (filter (λ e. same_stamp e.1.waits c.args.stamp) es)) (sym all)
    (every-filter (λ e. IsObject e.1.object) (λ e. same_stamp e.1.waits c.args.stamp) c.self.inside.held.entries c.self.invariant.1)))
