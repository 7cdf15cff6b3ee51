use Rattle.std.proofs.Common.{sym, ◌∙◌, ap, arith, Some}
use Rattle.page_form.proofs.ReadLemmas.{held_below, whole_goes, first_goes, when_good}
use Rattle.page_form.proofs.page_reads.add_page.Goals as goal

pub returns-then-good-clause-found : goal.returns-then-good-clause-found
returns-then-good-clause-found c content was fits =
    whole_goes content c.args.page _ c.in-Some.from c.in-Some.bytes.now c.add_effects.new.heads c.add_effects.new.effects.items
    (sym c.in-Some.ensures.sheet ∙ ap (λ p. Some (p, c.in-Some.from, c.in-Some.bytes.now)) c.in-Whole.is) (when_good c.in_ok-good-in-Whole.good _ _ c.if-good.true (c.in_ok-good-in-Whole.ensures.found content.log was))

pub returns-in-First-clause-found : goal.returns-in-First-clause-found
returns-in-First-clause-found c content was fits =
    let kept = c.in_ok-held-in-First.ensures in
    first_goes content c.args.page _ c.in-Some.from c.in-Some.bytes.now c.args.heads.now c.args.effects.now.items c.in_ok-held-in-First.held
    (sym c.in-Some.ensures.sheet ∙ ap (λ p. Some (p, c.in-Some.from, c.in-Some.bytes.now)) c.in-First.is) was kept.held.0 kept.held.1 kept.small

pub returns-then-good-2-clause-below : goal.returns-then-good-2-clause-below
returns-then-good-2-clause-below c limit low below = c.in_ok-good-in-Last.ensures.below limit (held_below c.args.page limit c.args.held (omega (arith, low)) c.requires.held) below

pub returns-clause-below : goal.returns-clause-below
returns-clause-below c limit low below = c.in_ok-good-in-Last.ensures.below limit (held_below c.args.page limit c.args.held (omega (arith, low)) c.requires.held) below
