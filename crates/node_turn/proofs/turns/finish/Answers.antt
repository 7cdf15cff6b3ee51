use Rattle.node_turn.proofs.Names.{knows, Image, Out, IsIntact, all_effects, life_at, IsAfter, AreSought, ◌+◌, ◌∙◌, List, sym, ap, subst, arith, Err}
use Rattle.node_turn.proofs.CostLemmas.{pays-none}
use Rattle.node_inputs.proofs.LifeLemmas.{on-ok, if-err}
use Rattle.node_turn.proofs.PhaseLemmas.{passes-on, passes-up, passes-after}
use Rattle.node_turn.proofs.SeekLemmas.{seeks-weaker, tested-none, tested-seeks, tested-after, tested-before, tested-sent}
use Rattle.node_inputs.proofs.TrailLemmas.{trail-joins, trail-cost}
use Rattle.node_turn.proofs.turns.finish.Goals as goal

pub give_up-requires-clause-after : goal.give_up-requires-clause-after
give_up-requires-clause-after g c =
    subst (IsAfter g.M.Medium g.K.Meanings c.in-Err.fault c.take_more-pass.new.core (knows c.take_more-pass.result.0) c.args.node)
    (sym c.durable-durable.ensures) (if-err _ _ _ c.in-Err.is c.take_more-pass.ensures.err)

pub returns-in-Err-clause-paid : goal.returns-in-Err-clause-paid
returns-in-Err-clause-paid g c =
    let e = trail-cost c.take_more-pass.ensures.trail in
    λ first r. c.give_up.ensures.paid (g.M.Medium.faults (g.K.Meanings.parts c.args.core).medium) (λ m. c.take_more-pass.ensures.cause (c.in-Err.is ∙ ap (λ f. Err f) m)) c.take_more-pass.ensures.unwritten.later
    first (pays-none _ _ _ _ (omega (arith, e)) (omega arith) first r)

pub returns-in-Err-clause-whole : goal.returns-in-Err-clause-whole
returns-in-Err-clause-whole g c = λ told ne same.
    let e = trail-cost c.take_more-pass.ensures.trail in
    let d = c.give_up.ensures.dear told ne in
    absurd (omega (arith, e, d, same))

pub returns-in-Err-clause-tested : goal.returns-in-Err-clause-tested
returns-in-Err-clause-tested g c = λ told repository.
    let q = c.give_up.ensures.trail in
    tested-none c.args.node (knows c.args.pass) (knows c.give_up.result.0) (0 + q.0) (trail-joins c.take_more-pass.ensures.trail q.1)

pub returns-in-Err-clause-adds : goal.returns-in-Err-clause-adds
returns-in-Err-clause-adds g c =
    let t = trail-joins c.take_more-pass.ensures.trail c.give_up.ensures.trail.1 in
    (t.own, t.adds)

pub returns-in-Err-sought-clause-paid : goal.returns-in-Err-sought-clause-paid
returns-in-Err-sought-clause-paid g c =
    let e = trail-cost c.take_more-pass.ensures.trail in
    let s = trail-cost c.look_up_all-pass.ensures.seeks.trail in
    λ first r. c.give_up-in-Err-sought.ensures.paid (g.M.Medium.faults (g.K.Meanings.parts c.take_more-pass.new.core).medium) (λ m. c.look_up_all-pass.ensures.cause (c.in-Err-sought.is ∙ ap (λ f. Err f) m)) c.look_up_all-pass.ensures.unwritten.later
    first (pays-none _ _ _ _ (omega (arith, e, s)) c.take_more-pass.ensures.unwritten.later first r)

pub returns-in-Err-sought-clause-whole : goal.returns-in-Err-sought-clause-whole
returns-in-Err-sought-clause-whole g c = λ told ne same.
    let e = trail-cost c.take_more-pass.ensures.trail in
    let s = trail-cost c.look_up_all-pass.ensures.seeks.trail in
    let d = c.give_up-in-Err-sought.ensures.dear told ne in
    absurd (omega (arith, e, s, d, same))

pub returns-in-Err-sought-clause-tested : goal.returns-in-Err-sought-clause-tested
returns-in-Err-sought-clause-tested g c = λ told repository.
    let q = c.give_up-in-Err-sought.ensures.trail in
    tested-before c.args.node (knows c.args.pass) (knows c.look_up_all-pass.result.0) (knows c.give_up-in-Err-sought.result.0) q.0
    (tested-after c.args.node (knows c.args.pass) (knows c.take_more-pass.result.0) (knows c.look_up_all-pass.result.0) c.take_more-pass.ensures.trail
    (tested-seeks c.args.node (knows c.take_more-pass.result.0) (knows c.look_up_all-pass.result.0) _ c.look_up_all-pass.ensures.seeks)) q.1

pub returns-in-Err-sought-clause-adds : goal.returns-in-Err-sought-clause-adds
returns-in-Err-sought-clause-adds g c =
    let t = trail-joins (trail-joins c.take_more-pass.ensures.trail c.look_up_all-pass.ensures.seeks.trail) c.give_up-in-Err-sought.ensures.trail.1 in
    (t.own, t.adds)

pub returns-clause-paid : goal.returns-clause-paid
returns-clause-paid g c =
    let e = trail-cost c.take_more-pass.ensures.trail in
    let s = trail-cost c.look_up_all-pass.ensures.seeks.trail in
    let x = c.take_more-pass.ensures.unwritten.later in
    let y = c.look_up_all-pass.ensures.unwritten.later in
    λ first r. c.end.ensures.paid first (pays-none _ _ _ _ (omega (arith, e, s)) (omega (arith, x, y)) first r)

pub returns-clause-whole : goal.returns-clause-whole
returns-clause-whole g c = λ told ne same.
    let e = trail-cost c.take_more-pass.ensures.trail in
    let s = trail-cost c.look_up_all-pass.ensures.seeks.trail in
    subst (λ (x : Image). IsIntact x (g.M.Medium.reads (g.K.Meanings.parts c.end.result.1.core).medium))
    (c.look_up_all-pass.ensures.unwritten.still told ∙ c.take_more-pass.ensures.unwritten.still told) (c.end.ensures.whole told ne (omega (arith, e, s, same)))

pub returns-clause-tested : goal.returns-clause-tested
returns-clause-tested g c = λ told repository.
    let n = c.args.node in
    let k = knows c.look_up_all-pass.result.0 in
    let u = on-ok _ _ _ c.in_default-sought.is c.look_up_all-pass.ensures.up in
    let t = c.end.ensures.sends in
    tested-after n (knows c.args.pass) (knows c.take_more-pass.result.0) (knows c.end.result.0) c.take_more-pass.ensures.trail
    (tested-sent n (knows c.take_more-pass.result.0) k (knows c.end.result.0) (all_effects (life_at k n)) (life_at k n).outs t.0 t.1
    (seeks-weaker n (knows c.take_more-pass.result.0) k _ (AreSought (all_effects (life_at k n)) (life_at k n).outs) c.look_up_all-pass.ensures.seeks
    (λ tests p. subst (λ (o : List Out). AreSought (all_effects (life_at k n)) o tests) (u.life told).outs (on-ok _ _ _ c.in_default-sought.is p told repository)))
    t.2 (t.3 told))

pub returns-clause-adds : goal.returns-clause-adds
returns-clause-adds g c =
    let t = trail-joins (trail-joins c.take_more-pass.ensures.trail c.look_up_all-pass.ensures.seeks.trail) c.end.ensures.sends.2 in
    (t.own, t.adds)

pub returns-in-Err-clause-passes : goal.returns-in-Err-clause-passes
returns-in-Err-clause-passes g c = λ told ne.
    let p = c.take_more-pass.ensures in
    passes-on
    (passes-after g.M.Medium g.met.M.Medium.only_now c.requires.up p.trail (p.unwritten.stages_still told) told c.in-Err.fault (if-err _ _ _ c.in-Err.is p.err) (λ e. ne (c.give_up.ensures.wanting e)))
    (c.give_up.ensures.passes told)

pub returns-in-Err-sought-clause-passes : goal.returns-in-Err-sought-clause-passes
returns-in-Err-sought-clause-passes g c = λ told ne.
    let p = c.take_more-pass.ensures in
    let q = c.look_up_all-pass.ensures in
    let u = on-ok _ _ _ c.in_default.is p.up in
    passes-on
    (passes-up g.M.Medium g.met.M.Medium.only_now c.requires.up p.trail (p.unwritten.stages_still told) told u p.durable)
    (passes-on
    (passes-after g.M.Medium g.met.M.Medium.only_now u q.seeks.trail (q.unwritten.stages_still told) told c.in-Err-sought.fault (if-err _ _ _ c.in-Err-sought.is q.err) (λ e. ne (c.give_up-in-Err-sought.ensures.wanting e)))
    (c.give_up-in-Err-sought.ensures.passes told))

pub returns-clause-passes : goal.returns-clause-passes
returns-clause-passes g c = λ told ne.
    let p = c.take_more-pass.ensures in
    let q = c.look_up_all-pass.ensures in
    let u = on-ok _ _ _ c.in_default.is p.up in
    passes-on
    (passes-up g.M.Medium g.met.M.Medium.only_now c.requires.up p.trail (p.unwritten.stages_still told) told u p.durable)
    (passes-on
    (passes-up g.M.Medium g.met.M.Medium.only_now u q.seeks.trail (q.unwritten.stages_still told) told (on-ok _ _ _ c.in_default-sought.is q.up) q.durable)
    (c.end.ensures.passes told))
