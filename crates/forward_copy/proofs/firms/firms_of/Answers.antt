use Rattle.forward_copy.proofs.Names.{ap, sym, subst, ◌∙◌, List, reverse, take, arith, get-empty, StampParts, object_cmp, Effect, AreFirm}
use Rattle.std.specs.FinMap as finite
use Rattle.forward_copy.proofs.SiftLemmas.{met-length, reverse-step}
use Rattle.forward_copy.proofs.firms.firms_of.Goals as goal

pub loop-index-init : goal.loop-index-init
loop-index-init c = λ o. ap (λ z. finite.get z o) c.new-firms.ensures ∙ get-empty object_cmp o

pub loop-index-preserved : goal.loop-index-preserved
loop-index-preserved c =
    let i = c.loop-index.index in
    let low = c.loop-index-test.true in
    subst (λ (l : List Effect). AreFirm (λ (s : StampParts). finite.get c.args.settles.now s) c.args.mark l c.note.new.firms)
    (sym (reverse-step c.args.log.now i c.index-log-index.result low c.index-log-index.is))
    (c.in_ok-note.ensures (reverse (take i c.args.log.now)) (met-length c.args.log.now i (omega (arith, low))) c.loop-index.invariant)
