use Rattle.page_form.proofs.Names.{◌≡◌, ◌≤◌, ℕ, length, ◌==◌, false, Bool, arith, nat_tests}
use Rattle.page_form.proofs.ReadLemmas.{at_none, at_some, less_at, page_stops, page_goes}
use Rattle.page_form.proofs.page_reads.add_effects.Goals as goal

some_left : (n : ℕ) (b : Bool) → b ≡ (n == 0) → b ≡ false → 1 ≤ n
some_left n b is other = grind (arith, nat_tests)

pub returns-in-None-clause-found : goal.returns-in-None-clause-found
returns-in-None-clause-found c log was =
    let r = c.loop.rest.now in
    let so_far = c.loop.invariant.content log was in
    let met = c.in_ok-add_effect.ensures.found so_far.now so_far.stands in
    page_stops log c.args.page c.args.from c.args.texts.now c.loop.counter r c.loop.heads c.loop.effects.items so_far c.loop-test.true (some_left (length r) c.is_empty.result c.is_empty.ensures c.if-is_empty.false) (at_none c.in_ok-add_effect.field-0 _ _ _ c.in-None.is met)

pub loop-preserved : goal.loop-preserved
loop-preserved c = record {
  less = (let fewer = less_at c.in_ok-add_effect.field-0 c.in-Some.after _ c.in-Some.is c.in_ok-add_effect.ensures.less in omega (arith, fewer, c.loop.invariant.less));
  places = c.in_ok-add_effect.ensures.places;
  below = λ limit low below. c.in_ok-add_effect.ensures.below limit low (c.loop.invariant.below limit low below);
  ranges = λ h. c.in_ok-add_effect.ensures.ranges (c.loop.invariant.ranges h);
  content = λ log was.
      let r = c.loop.rest.now in
      let so_far = c.loop.invariant.content log was in
      let met = c.in_ok-add_effect.ensures.found so_far.now so_far.stands in
      page_goes log c.args.page c.args.from c.args.texts.now c.loop.counter r c.loop.heads c.loop.effects.items so_far c.loop-test.true (some_left (length r) c.is_empty.result c.is_empty.ensures c.if-is_empty.false) c.in-Some.after.now c.add_effect.new.heads c.add_effect.new.effects.items (at_some c.in_ok-add_effect.field-0 _ _ _ c.in-Some.after c.in-Some.is met);
}

pub returns-in-None-clause-below : goal.returns-in-None-clause-below
returns-in-None-clause-below c limit low below = c.in_ok-add_effect.ensures.below limit low (c.loop.invariant.below limit low below)

pub returns-in-None-clause-ranges : goal.returns-in-None-clause-ranges
returns-in-None-clause-ranges c h = c.in_ok-add_effect.ensures.ranges (c.loop.invariant.ranges h)
