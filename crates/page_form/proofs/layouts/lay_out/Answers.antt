use Rattle.page_form.proofs.Names.{Effect, Filled, filling, reach, LaidOut, bytes_of, ◌≡◌, ◌+◌, ◌<◌, ◌≤◌, [], ◌∷◌, ℕ, List, length, drop, get_or, sym, ◌∙◌, ap, subst, arith, drop_all, drop_more}
use Rattle.page_form.proofs.ParcelLemmas.{filled_none, filled_reach, filled_all}
use Rattle.page_form.proofs.LayingLemmas.{laid_none, laid_bodies, laid_heads, closed_body-length}
use Rattle.page_form.proofs.layouts.lay_out.Goals as goal

pub loop-effect-init : goal.loop-effect-init
loop-effect-init c =
    let bodies = c.new-bodies.ensures.items in
    let texts = c.new-texts.ensures.items in
    record {
      at = omega (arith, ap length bodies);
      filled = subst (λ (n : ℕ). Filled c.args.effects.now 0 n (length c.new-texts.result.items)) (sym (ap length bodies)) (subst (λ (n : ℕ). Filled c.args.effects.now 0 0 n) (sym (ap length texts)) (filled_none c.args.effects.now));
      most = omega (arith, ap length texts);
      bodies = λ k d within. absurd (omega (arith, within, ap length bodies));
      places = c.requires.places;
      below = λ limit room below. below;
      content = λ log fits.
          subst (λ (l : List (List ℕ)). LaidOut log c.args.first c.args.effects.now l c.new-texts.result.items c.args.heads.now c.args.first c.args.effects.now) (sym (ap bytes_of bodies))
          (subst (λ (l : List ℕ). LaidOut log c.args.first c.args.effects.now [] l c.args.heads.now c.args.first c.args.effects.now) (sym texts) (laid_none log c.args.first c.args.effects.now c.args.heads.now fits));
    }

-- the pages of the effect at hand are among those that the effects fill
room_at : (effects : List Effect) (i full size : ℕ) (e : Effect) (first page : ℕ) → Filled effects i full size → i < length effects → e ≡ get_or effects i e → page ≡ first + full → page + reach size e ≤ first + length (filling effects)
room_at effects i full size e first page was low is at = let within = filled_reach effects i full size was e low (sym is) in omega (arith, within, at)

pub lay_next-requires-clause-room : goal.lay_next-requires-clause-room
lay_next-requires-clause-room c =
    let was = c.loop-effect.invariant in
    let within = room_at c.args.effects.now c.loop-effect.effect-index _ _ c.effect-item.result c.args.first c.loop-effect.page was.filled c.loop-effect-test.true c.effect-item.is was.at in
    omega (arith, within, c.requires.room)

pub loop-effect-preserved : goal.loop-effect-preserved
loop-effect-preserved c =
    let was = c.loop-effect.invariant in
    let all = c.args.effects.now in
    let i = c.loop-effect.effect-index in
    let low = c.loop-effect-test.true in
    let next = c.in_ok-page.ensures in
    record {
      at = omega (arith, next.at, was.at);
      filled = next.filled all i was.filled low (sym c.effect-item.is);
      most = next.most;
      bodies = next.bodies;
      places = next.places;
      below = λ limit room below.
          let within = room_at all i _ _ c.effect-item.result c.args.first c.loop-effect.page was.filled low c.effect-item.is was.at in
          next.below limit (omega (arith, within, room)) (was.below limit room below);
      content = λ log fits. next.content log c.args.first all (drop (i + 1) all)
          (subst (λ (l : List Effect). LaidOut log c.args.first all (bytes_of c.loop-effect.bodies.items) c.loop-effect.texts.items c.loop-effect.heads c.loop-effect.page l)
          (drop_more all i c.effect-item.result low ∙ ap (λ (e : Effect). e ∷ drop (i + 1) all) (sym c.effect-item.is)) (was.content log fits));
    }

pub returns-clause-count : goal.returns-clause-count
returns-clause-count c =
    let was = c.loop-effect.invariant in
    let all = filled_all c.args.effects.now c.loop-effect.effect-index _ _ c.loop-effect-test.false was.filled in
    let closed = c.in_ok-close.ensures in
    let bytes = ap (λ (l : List (List ℕ)). length l) closed.bytes in
    closed_body-length c.loop-effect.bodies.items c.close.new.bodies.items c.loop-effect.texts.items closed.bytes ∙ all

pub returns-clause-pages : goal.returns-clause-pages
returns-clause-pages c log fits =
    let done = drop_all c.loop-effect.effect-index c.args.effects.now c.loop-effect-test.false in
    c.in_ok-close.ensures.bytes
    ∙ laid_bodies log c.args.first c.args.effects.now (bytes_of c.loop-effect.bodies.items) c.loop-effect.texts.items c.loop-effect.heads c.loop-effect.page _ done (c.loop-effect.invariant.content log fits)

pub returns-clause-heads : goal.returns-clause-heads
returns-clause-heads c log fits = laid_heads log c.args.first c.args.effects.now (bytes_of c.loop-effect.bodies.items) c.loop-effect.texts.items c.loop-effect.heads c.loop-effect.page _ (drop_all c.loop-effect.effect-index c.args.effects.now c.loop-effect-test.false) (c.loop-effect.invariant.content log fits)
