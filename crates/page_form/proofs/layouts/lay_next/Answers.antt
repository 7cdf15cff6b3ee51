use Rattle.page_form.proofs.Names.{size_of, Filled, begun_pages, full_pages, bytes_of, ◌≡◌, ◌+◌, ◌-◌, ℕ, List, length, sym, ◌∙◌, ap, subst, arith, ◌/◌}
use Rattle.page_form.proofs.ParcelLemmas.{filled_takes, filled_begins, filled_alone, reach-some, reach-begins}
use Rattle.page_form.proofs.LayingLemmas.{laid_takes, next_begins, next_alone, closed_body-length, length-closed_body}
use Rattle.page_form.proofs.layouts.lay_next.Goals as goal

-- ---- the page takes the effect

pub returns-then-len-size-le-PAGE_TEXTS-clause-content : goal.returns-then-len-size-le-PAGE_TEXTS-clause-content
returns-then-len-size-le-PAGE_TEXTS-clause-content c log first effects rest was =
    laid_takes log first effects (bytes_of c.args.bodies.now.items) c.args.texts.now.items c.args.heads.now c.add.new.heads c.args.page c.args.effect.now rest was c.add.new.texts.items
    (omega (arith, c.if-len-size-le-PAGE_TEXTS.true, c.len.ensures, c.effect_size-size.ensures.is)) c.in_ok-add.ensures.texts c.in_ok-add.ensures.heads

pub returns-then-len-size-le-PAGE_TEXTS-clause-filled : goal.returns-then-len-size-le-PAGE_TEXTS-clause-filled
returns-then-len-size-le-PAGE_TEXTS-clause-filled c effects i was within here =
    subst (λ (n : ℕ). Filled effects (i + 1) (length c.args.bodies.now.items) n) (sym c.in_ok-add.ensures.size)
    (filled_takes effects i _ _ was c.args.effect.now within here (omega (arith, c.if-len-size-le-PAGE_TEXTS.true, c.len.ensures, c.effect_size-size.ensures.is)))

pub returns-then-len-size-le-PAGE_TEXTS-clause-below : goal.returns-then-len-size-le-PAGE_TEXTS-clause-below
returns-then-len-size-le-PAGE_TEXTS-clause-below c limit room below =
    let some = reach-some (length c.args.texts.now.items) c.args.effect.now in
    c.in_ok-add.ensures.below limit (omega (arith, room, some)) below

-- ---- or the next page begins with it

pub returns-then-size-le-PAGE_TEXTS-clause-content : goal.returns-then-size-le-PAGE_TEXTS-clause-content
returns-then-size-le-PAGE_TEXTS-clause-content c log first effects rest was =
    let closed = c.in_ok-page.ensures in
    next_begins log first effects (bytes_of c.args.bodies.now.items) (bytes_of c.close.new.bodies.items) c.args.texts.now.items c.close.new.texts.items c.args.heads.now c.add-then-size-le-PAGE_TEXTS.new.heads c.args.page (c.args.page + c.in_ok-page.field-0) c.args.effect.now rest was
    closed.bytes (ap (λ (n : ℕ). c.args.page + n) closed.count) closed.texts c.add-then-size-le-PAGE_TEXTS.new.texts.items
    (omega (arith, c.if-len-size-le-PAGE_TEXTS.false, c.len.ensures, c.effect_size-size.ensures.is)) (omega (arith, c.if-size-le-PAGE_TEXTS.true, c.effect_size-size.ensures.is))
    c.in_ok-add-2.ensures.texts c.in_ok-add-2.ensures.heads

pub returns-then-size-le-PAGE_TEXTS-clause-filled : goal.returns-then-size-le-PAGE_TEXTS-clause-filled
returns-then-size-le-PAGE_TEXTS-clause-filled c effects i was within here =
    let closed = c.in_ok-page.ensures in
    let count = closed_body-length c.args.bodies.now.items c.close.new.bodies.items c.args.texts.now.items closed.bytes in
    let size : length c.add-then-size-le-PAGE_TEXTS.new.texts.items ≡ size_of c.args.effect.now = c.in_ok-add-2.ensures.size ∙ omega (arith, ap (λ (l : List ℕ). length l) closed.texts) in
    subst (λ (n : ℕ). Filled effects (i + 1) n (length c.add-then-size-le-PAGE_TEXTS.new.texts.items)) (sym count)
    (subst (λ (n : ℕ). Filled effects (i + 1) (length c.args.bodies.now.items + begun_pages (length c.args.texts.now.items)) n) (sym size)
    (filled_begins effects i _ _ was c.args.effect.now within here (omega (arith, c.if-len-size-le-PAGE_TEXTS.false, c.len.ensures, c.effect_size-size.ensures.is)) (omega (arith, c.if-size-le-PAGE_TEXTS.true, c.effect_size-size.ensures.is))))

pub returns-then-size-le-PAGE_TEXTS-clause-below : goal.returns-then-size-le-PAGE_TEXTS-clause-below
returns-then-size-le-PAGE_TEXTS-clause-below c limit room below =
    let begun = c.in_ok-page.ensures.count ∙ length-closed_body c.args.texts.now.items in
    let far = reach-begins (length c.args.texts.now.items) c.args.effect.now (omega (arith, c.if-len-size-le-PAGE_TEXTS.false, c.len.ensures, c.effect_size-size.ensures.is)) in
    c.in_ok-add-2.ensures.below limit (omega (arith, room, far, begun)) below

-- ---- or it has pages of its own

pub returns-clause-content : goal.returns-clause-content
returns-clause-content c log first effects rest was =
    let closed = c.in_ok-page.ensures in
    let full : (c.effect_size-size.result - 1) / 4091 ≡ full_pages c.args.effect.now = ap (λ (n : ℕ). (n - 1) / 4091) c.effect_size-size.ensures.is in
    next_alone log first effects (bytes_of c.args.bodies.now.items) (bytes_of c.close.new.bodies.items) c.args.texts.now.items c.close.new.texts.items c.args.heads.now c.add_alone.new.heads c.args.page (c.args.page + c.in_ok-page.field-0) c.args.effect.now rest was
    closed.bytes (ap (λ (n : ℕ). c.args.page + n) closed.count) closed.texts (bytes_of c.add_alone.new.bodies.items) _
    (omega (arith, c.if-size-le-PAGE_TEXTS.false, c.effect_size-size.ensures.is)) (omega (arith, full)) c.in_ok-add_alone.ensures.bytes c.in_ok-add_alone.ensures.heads

pub returns-clause-filled : goal.returns-clause-filled
returns-clause-filled c effects i was within here =
    let closed = c.in_ok-page.ensures in
    let count = closed_body-length c.args.bodies.now.items c.close.new.bodies.items c.args.texts.now.items closed.bytes in
    let all : length c.add_alone.new.bodies.items ≡ length c.args.bodies.now.items + begun_pages (length c.args.texts.now.items) + (full_pages c.args.effect.now + 1) = omega (arith, c.in_ok-add_alone.ensures.count, count) in
    subst (λ (n : ℕ). Filled effects (i + 1) n (length c.close.new.texts.items)) (sym all)
    (subst (λ (n : ℕ). Filled effects (i + 1) (length c.args.bodies.now.items + begun_pages (length c.args.texts.now.items) + (full_pages c.args.effect.now + 1)) n) (sym (ap (λ (l : List ℕ). length l) closed.texts))
    (filled_alone effects i _ _ was c.args.effect.now within here (omega (arith, c.if-size-le-PAGE_TEXTS.false, c.effect_size-size.ensures.is))))

pub returns-clause-below : goal.returns-clause-below
returns-clause-below c limit room below =
    let begun = c.in_ok-page.ensures.count ∙ length-closed_body c.args.texts.now.items in
    let far = reach-begins (length c.args.texts.now.items) c.args.effect.now (omega (arith, c.if-len-size-le-PAGE_TEXTS.false, c.len.ensures, c.effect_size-size.ensures.is)) in
    c.in_ok-add_alone.ensures.below limit (omega (arith, room, far, begun)) below
