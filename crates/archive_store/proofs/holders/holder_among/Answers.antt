use Rattle.archive_store.proofs.Names.{◌≡◌, ◌<◌, ◌≤◌, ◌+◌, ◌-◌, ap, sym, ◌∙◌, map, drop, length, arith, has_start, holder_of}
use Rattle.archive_store.proofs.HolderLemmas.{holds-here, holds-none, holds-not}
use Rattle.archive_store.proofs.holders.holder_among.Goals as goal

pub loop-place-init : goal.loop-place-init
loop-place-init c =
    let n = length c.args.logs.now in
    let itself : n ≤ n = omega arith in
    (itself, holds-none (λ log. log.items) c.args.object c.args.start c.args.logs.now n itself)

pub returns-then-has_put : goal.returns-then-has_put
returns-then-has_put c =
    let o = c.args.object in
    let x = c.args.start in
    let logs = c.args.logs.now in
    let p = c.loop-place.place - 1 in
    let within = c.loop-place.invariant.0 in
    let some = c.loop-place-test.true in
    let here : p + 1 ≡ c.loop-place.place = omega (arith, some) in
    let below : p < length logs = omega (arith, some, within) in
    sym (holds-here (λ log. log.items) o x logs p c.index-logs-place.result below c.index-logs-place.is (ap (λ i. holder_of o x (map (λ log. log.items) (drop i logs))) here ∙ c.loop-place.invariant.1)
    (sym (ap (has_start o x) c.as_slice.ensures.value) ∙ sym c.has_put.ensures ∙ c.if-has_put.true))

pub loop-place-preserved : goal.loop-place-preserved
loop-place-preserved c =
    let o = c.args.object in
    let x = c.args.start in
    let logs = c.args.logs.now in
    let p = c.loop-place.place - 1 in
    let within = c.loop-place.invariant.0 in
    let some = c.loop-place-test.true in
    let here : p + 1 ≡ c.loop-place.place = omega (arith, some) in
    let below : p < length logs = omega (arith, some, within) in
    let under : p ≤ length logs = omega (arith, some, within) in (
      under,
      holds-not (λ log. log.items) o x logs p c.index-logs-place.result below c.index-logs-place.is (ap (λ i. holder_of o x (map (λ log. log.items) (drop i logs))) here ∙ c.loop-place.invariant.1)
          (sym (ap (has_start o x) c.as_slice.ensures.value) ∙ sym c.has_put.ensures ∙ c.if-has_put.false),
    )
