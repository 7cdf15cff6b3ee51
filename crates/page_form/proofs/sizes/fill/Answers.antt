use Rattle.page_form.proofs.Names.{◌+◌, ◌-◌, ℕ, sym, subst, arith, ◌/◌, Filled, begun_pages}
use Rattle.page_form.proofs.ParcelLemmas.{filled_takes, filled_begins, filled_alone}
use Rattle.page_form.proofs.sizes.fill.Goals as goal

pub returns-then-size-more-le-PAGE_TEXTS-clause-filled : goal.returns-then-size-more-le-PAGE_TEXTS-clause-filled
returns-then-size-more-le-PAGE_TEXTS-clause-filled c effects i was within here =
    subst (λ (n : ℕ). Filled effects (i + 1) c.args.full (c.args.size + n)) (sym c.effect_size-more.ensures.is)
    (filled_takes effects i c.args.full c.args.size was c.args.effect.now within here (omega (arith, c.if-size-more-le-PAGE_TEXTS.true, c.effect_size-more.ensures.is)))

pub returns-then-more-le-PAGE_TEXTS-clause-filled : goal.returns-then-more-le-PAGE_TEXTS-clause-filled
returns-then-more-le-PAGE_TEXTS-clause-filled c effects i was within here =
    subst (λ (n : ℕ). Filled effects (i + 1) (c.args.full + n) c.effect_size-more.result) (sym c.begun.ensures)
    (subst (λ (n : ℕ). Filled effects (i + 1) (c.args.full + begun_pages c.args.size) n) (sym c.effect_size-more.ensures.is)
    (filled_begins effects i c.args.full c.args.size was c.args.effect.now within here (omega (arith, c.if-size-more-le-PAGE_TEXTS.false, c.effect_size-more.ensures.is)) (omega (arith, c.if-more-le-PAGE_TEXTS.true, c.effect_size-more.ensures.is))))

pub returns-clause-filled : goal.returns-clause-filled
returns-clause-filled c effects i was within here =
    subst (λ (n : ℕ). Filled effects (i + 1) (c.args.full + n + ((c.effect_size-more.result - 1) / 4091 + 1)) 0) (sym c.begun-2.ensures)
    (subst (λ (n : ℕ). Filled effects (i + 1) (c.args.full + begun_pages c.args.size + ((n - 1) / 4091 + 1)) 0) (sym c.effect_size-more.ensures.is)
    (filled_alone effects i c.args.full c.args.size was c.args.effect.now within here (omega (arith, c.if-more-le-PAGE_TEXTS.false, c.effect_size-more.ensures.is))))
