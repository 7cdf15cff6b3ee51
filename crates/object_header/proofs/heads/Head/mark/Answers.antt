use Rattle.std.proofs.Common.{rules, arith, ◌≡◌, ◌-◌, true, false, sym, ap, ◌∙◌}
use Rattle.object_header.proofs.LoopLemmas.{over-code, past-code, firm-code, here-code, head-code, mark-none, so_far}
use Rattle.object_header.proofs.heads.Head.mark.Goals as goal

pub returns-then-is_before : goal.returns-then-is_before
returns-then-is_before c =
    let i = c.loop-left.self-inside in
    let inv = c.loop-left.invariant in
    head-code c.args.settles.now c.args.time i.odd c.self.inside.odd i.origin c.self.inside.origin _ c.self.inside.spans.items c.args.self.now (ap (λ z. z.odd) inv.0) (ap (λ z. z.origin) inv.0) c.self.view_is
    (here-code c.args.settles.now c.args.time i.spans.items c.loop-left.left c.index.result.now _ (search rules) inv.1 c.index.ensures inv.2 c.index_mut.result.now c.index-then-is_before.result.now c.later-end.result
    c.index_mut.ensures.value c.index-then-is_before.ensures c.later-end.ensures (sym c.is_living.ensures ∙ c.if-is_living.true) (sym c.is_before.ensures ∙ c.if-is_before.true))

pub returns-then-is_firm : goal.returns-then-is_firm
returns-then-is_firm c =
    let i = c.loop-left.self-inside in
    let inv = c.loop-left.invariant in
    head-code c.args.settles.now c.args.time i.odd c.self.inside.odd i.origin c.self.inside.origin _ c.self.inside.spans.items c.args.self.now (ap (λ z. z.odd) inv.0) (ap (λ z. z.origin) inv.0) c.self.view_is
    (firm-code c.args.settles.now c.args.time i.spans.items c.loop-left.left c.index.result.now _ (search rules) inv.1 c.index.ensures inv.2
    (sym c.is_living.ensures ∙ c.if-is_living.true) (sym c.is_before.ensures ∙ c.if-is_before.false) (sym c.is_firm.ensures ∙ c.if-is_firm.true))

pub loop-left-preserved-else-is_firm : goal.loop-left-preserved-else-is_firm
loop-left-preserved-else-is_firm c =
    let i = c.loop-left.self-inside in
    let inv = c.loop-left.invariant in (
      inv.0,
      omega (arith, inv.1),
      past-code c.args.settles.now c.args.time i.spans.items c.loop-left.left c.index.result.now _ (search rules) inv.1 c.index.ensures inv.2
          (sym c.is_living.ensures ∙ c.if-is_living.true) (sym c.is_before.ensures ∙ c.if-is_before.false) (sym c.is_firm.ensures ∙ c.if-is_firm.false),
    )

pub loop-left-preserved : goal.loop-left-preserved
loop-left-preserved c =
    let i = c.loop-left.self-inside in
    let inv = c.loop-left.invariant in (
      inv.0,
      omega (arith, inv.1),
      over-code c.args.settles.now c.args.time i.spans.items c.loop-left.left c.index.result.now _ (search rules) inv.1 c.index.ensures inv.2 (sym c.is_living.ensures ∙ c.if-is_living.false),
    )

pub returns : goal.returns
returns c =
    let i = c.loop-left.self-inside in
    let inv = c.loop-left.invariant in
    let none : c.loop-left.left ≡ 0 = omega (arith, c.loop-left-test.false) in
    head-code c.args.settles.now c.args.time i.odd c.self.inside.odd i.origin c.self.inside.origin _ c.self.inside.spans.items c.args.self.now (ap (λ z. z.odd) inv.0) (ap (λ z. z.origin) inv.0) c.self.view_is
    (sym (mark-none c.args.settles.now c.args.time i.spans.items) ∙ sym (ap (so_far c.args.settles.now c.args.time i.spans.items) none) ∙ inv.2)
