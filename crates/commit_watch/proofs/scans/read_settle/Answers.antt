use Rattle.commit_watch.proofs.Names.{◌≡◌, ◌∷◌, subst, sym, ap, ◌∙◌, StampParts, Mark, settle_of, on_ok}
use Rattle.std.specs.FinMap as finite
use Rattle.commit_watch.proofs.StandingLemmas.{settle-first, settle-known, none-of}
use Rattle.commit_watch.proofs.scans.read_settle.Goals as goal

pub returns-then-is_some : goal.returns-then-is_some
returns-then-is_some c = λ m h.
    subst (λ (f : Mark). (p : StampParts) → finite.get c.args.settles.now p ≡ settle_of (f ∷ m) p) (sym c.in-Settle.is)
    (settle-known m c.args.settles.now c.in-Settle.stamp c.in-Settle.committed c.get.result h c.get.ensures (sym c.is_some.ensures ∙ c.if-is_some.true))

pub returns-else-is_some : goal.returns-else-is_some
returns-else-is_some c = λ m h. on_ok c.put.result (λ is.
    subst (λ (f : Mark). (p : StampParts) → finite.get c.put.new.self p ≡ settle_of (f ∷ m) p) (sym c.in-Settle.is)
    (λ p. ap (λ z. finite.get z p) is ∙ settle-first m c.args.settles.now c.in-Settle.stamp c.in-Settle.committed h (sym c.get.ensures ∙ none-of c.get.result (sym c.is_some.ensures ∙ c.if-is_some.false)) p)) c.put.ensures.ok
