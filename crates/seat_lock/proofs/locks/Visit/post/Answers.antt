use Rattle.std.proofs.Common.{arith, refl, length, ap, sym, subst}
use Rattle.seat_lock.proofs.Visiting.{posts}
use Rattle.seat_lock.proofs.Showing.{still_inside}
use Rattle.seat_lock.proofs.locks.Visit.post.Goals as goal

pub store-requires : goal.store-requires
store-requires g c = let self = c.args.self.now in let at = c.requires.inside.1 in let b = at.based in (
  at.here,
  omega (arith, c.requires.word),
  posts _ _ _ _ _ _ c.args.word c.args.number b.0 at.holds b.1 (subst (λ z. g.T.Storied.may_hold z self.seat.me.0.story c.args.word c.args.number) (sym b.2) c.requires.may),
)

pub returns-clause-inside : goal.returns-clause-inside
returns-clause-inside g c = let self = c.args.self.now in let told = c.store.ensures.2 in
    λ x h. still_inside self _ x h refl refl c.store.ensures.0 told.1 (ap (λ v. v.stage) told.0) (ap (λ v. v.base) told.0) (ap (λ v. length v.parts) told.0)
