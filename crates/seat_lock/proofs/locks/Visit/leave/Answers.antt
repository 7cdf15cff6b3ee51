use Rattle.seat_lock.proofs.Names.{arith, length, ap, ◌∙◌, sym, subst, rest, shown}
use Rattle.seat_lock.proofs.Visiting.{leaves}
use Rattle.seat_lock.proofs.locks.Visit.leave.Goals as goal

pub fetch_add-served-requires : goal.fetch_add-served-requires
fetch_add-served-requires g c = let t = c.requires.stands in let at = t.1 in let b = at.based in (
  at.here,
  omega (arith, c.args.self.lock.now.sized),
  leaves _ _ _ _ _ _ t.0 b.0 at.holds at.slot b.1 (subst (λ z. g.T.Storied.stands z t.0) (sym b.2) t.2) t.3,
)

pub returns-clause-pass : goal.returns-clause-pass
returns-clause-pass g c = let at = c.requires.stands.1 in let told = c.fetch_add-served.ensures in let left = told.2 in
    record {
      here = told.0 ∙ at.here;
      idle = ap (λ v. v.stage) left.0;
      empty = left.1 ∙ ap rest at.slot;
      owned = ap (λ v. length v.parts) left.0 ∙ at.owned;
      based = (at.based.0, ap (λ v. v.base) left.0 ∙ at.based.1, at.based.2);
    }

pub returns-clause-kept : goal.returns-clause-kept
returns-clause-kept g c = ap shown c.fetch_add-served.ensures.2.0
