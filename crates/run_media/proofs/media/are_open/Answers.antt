use Rattle.run_media.proofs.Names.{sym, subst, All, take, take_more, take_all, IsOpen}
use Rattle.std.proofs.lemmas.List.Elements.{All-push}
use Rattle.run_media.proofs.media.are_open.Goals as goal

pub loop-opening-preserved : goal.loop-opening-preserved
loop-opening-preserved g c =
    let xs = c.args.openings.now in
    let i = c.loop-opening.opening-index in
    let o = c.opening-item.result in
    subst (λ l. All IsOpen l) (sym (take_more xs i o c.loop-opening-test.true)) (All-push IsOpen (take i xs) _ c.loop-opening.invariant (subst IsOpen c.opening-item.is (subst IsOpen (sym c.in-Open.is) tt)))

pub returns-clause-open : goal.returns-clause-open
returns-clause-open g c is = subst (λ l. All IsOpen l) (take_all c.loop-opening.opening-index c.args.openings.now c.loop-opening-test.false) c.loop-opening.invariant
