use Rattle.std.proofs.Common.{rules, arith, false, refl, sym, ◌∙◌}
use Rattle.object_header.proofs.LoopLemmas.{drop-code}
use Rattle.object_header.proofs.heads.Head.drop_dead.Goals as goal

pub loop-left-preserved : goal.loop-left-preserved
loop-left-preserved c =
    let i = c.self.inside in
    let inv = c.loop-left.invariant in (
      refl,
      omega (arith, inv.1),
      drop-code c.args.settles.now i.spans.items c.loop-left.left c.index.result.now _ (search rules) inv.1 c.index.ensures (sym c.is_living.ensures ∙ c.if-is_living.false) inv.2,
    )
