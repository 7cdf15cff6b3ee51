use Rattle.archive_store.proofs.Names.{ap, ◌∙◌, ◌+◌, ◌++◌, map, drop, reverse, refl, all_firsts, met_after}
use Rattle.archive_store.proofs.JoinLemmas.{drop-item, drop-end, given-step, given-done}
use Rattle.archive_store.proofs.joins.given_up.Goals as goal

pub loop-log-init : goal.loop-log-init
loop-log-init c =
    let logs = map (λ log. log.items) c.args.logs.now in
    let met = reverse c.args.last.now in
    (met, c.in_ok-met.ensures, ap (λ xs. xs ++ all_firsts c.floor_among-floor.result met logs) c.new-marks.ensures.items ∙ ap (λ f. all_firsts f met logs) c.floor_among-floor.ensures)

pub loop-log-preserved : goal.loop-log-preserved
loop-log-preserved c =
    let now = c.loop-log.invariant in
    let i = c.loop-log.log-index in
    let rest = drop (i + 1) c.args.logs.now in (
      met_after c.floor_among-floor.result now.0 c.as_slice.result.now,
      c.in_ok-add_firsts.ensures.met now.0 now.1,
      given-step c.floor_among-floor.result now.0 c.loop-log.marks.items c.add_firsts.new.marks.items c.as_slice.result.now c.log-item.result.items (map (λ log. log.items) rest) _ _ c.as_slice.ensures.value
          (ap (map (λ log. log.items)) (drop-item c.args.logs.now i (i + 1) c.log-item.result refl c.loop-log-test.true c.log-item.is)) (c.in_ok-add_firsts.ensures.marks now.0 now.1) now.2,
    )

pub returns : goal.returns
returns c =
    let now = c.loop-log.invariant in
    given-done c.floor_among-floor.result now.0 c.loop-log.marks.items _ _ (ap (map (λ log. log.items)) (drop-end c.args.logs.now c.loop-log.log-index c.loop-log-test.false)) now.2
