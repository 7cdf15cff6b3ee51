use Rattle.node_turn.proofs.Names.{knows, life_at, owed, world_at, IsIntact, IsStruck, ◌+◌, ◌∙◌, refl, sym, ap, subst, arith, [], Err}
use Rattle.node_turn.proofs.CostLemmas.{pays-none, pays-one}
use Rattle.node_inputs.proofs.LifeLemmas.{on-ok, if-ok, on-err, if-err}
use Rattle.node_inputs.proofs.TrailLemmas.{trail-joins, trail-cost}
use Rattle.node_turn.proofs.PageLemmas.{whole-same}
use Rattle.node_turn.proofs.PhaseLemmas.{passes-on}
use Rattle.node_turn.proofs.SettleLemmas.{closes-after, closes-gated, up-found}
use Rattle.node_turn.specs.declared.conditions.Condition.TheVariants as condition
use Rattle.node_turn.proofs.turns.end.Goals as goal

pub returns-in-Ok-clause-keeps : goal.returns-in-Ok-clause-keeps
returns-in-Ok-clause-keeps g c = if-ok _ _ _ c.in-Ok.is c.close-pass.ensures.up

pub returns-in-Ok-clause-sends : goal.returns-in-Ok-clause-sends
returns-in-Ok-clause-sends g c = (owed (world_at (knows c.args.pass)) c.args.node, 0, on-ok _ _ _ c.in-Ok.is c.close-pass.ensures.sent, λ t out h. h)

pub returns-in-Ok-clause-paid : goal.returns-in-Ok-clause-paid
returns-in-Ok-clause-paid g c =
    let e = trail-cost (on-ok _ _ _ c.in-Ok.is c.close-pass.ensures.sent) in
    pays-none _ _ _ _ (omega (arith, e)) c.close-pass.ensures.later

pub returns-in-Ok-clause-whole : goal.returns-in-Ok-clause-whole
returns-in-Ok-clause-whole g c = λ told ne same. on-ok _ _ _ c.in-Ok.is (c.close-pass.ensures.intact told)

pub returns-in-NoMemory-clause-keeps : goal.returns-in-NoMemory-clause-keeps
returns-in-NoMemory-clause-keeps g c = rw c.in-NoMemory.is at (if-err _ _ _ c.in-Err.is c.close-pass.ensures.err)

pub returns-in-NoMemory-clause-sends : goal.returns-in-NoMemory-clause-sends
returns-in-NoMemory-clause-sends g c = ([], 0, on-err _ _ _ c.in-Err.is c.close-pass.ensures.unsent, λ t out h. elim h [ ])

pub returns-in-NoMemory-clause-paid : goal.returns-in-NoMemory-clause-paid
returns-in-NoMemory-clause-paid g c =
    let e = trail-cost (on-err _ _ _ c.in-Err.is c.close-pass.ensures.unsent) in
    pays-none _ _ _ _ (omega (arith, e)) c.close-pass.ensures.later

pub returns-in-NoMemory-clause-whole : goal.returns-in-NoMemory-clause-whole
returns-in-NoMemory-clause-whole g c = λ told ne. absurd (ne refl)

pub open_anew-requires-clause-struck : goal.open_anew-requires-clause-struck
open_anew-requires-clause-struck g c =
    subst (IsStruck g.M.Medium g.K.Meanings c.close-pass.result.1 (knows c.close-pass.result.0) c.args.node) (sym c.durable-durable.ensures)
    (rw c.in-Medium.is at (if-err _ _ _ c.in-Err.is c.close-pass.ensures.err))

pub returns-in-Medium-clause-sends : goal.returns-in-Medium-clause-sends
returns-in-Medium-clause-sends g c =
    let q = c.open_anew.ensures.trail in
    ([], 0 + q.0, trail-joins (on-err _ _ _ c.in-Err.is c.close-pass.ensures.unsent) q.1, λ t out h. elim h [ ])

pub returns-in-Medium-clause-paid : goal.returns-in-Medium-clause-paid
returns-in-Medium-clause-paid g c =
    let e = trail-cost (on-err _ _ _ c.in-Err.is c.close-pass.ensures.unsent) in
    let rose = c.close-pass.ensures.cause (c.in-Err.is ∙ ap (λ f. Err f) c.in-Medium.is) in
    λ first r. c.open_anew.ensures.paid first (pays-one _ _ _ _ (omega (arith, e)) rose first r)

pub returns-in-Medium-clause-whole : goal.returns-in-Medium-clause-whole
returns-in-Medium-clause-whole g c = λ told ne same.
    let e = trail-cost (on-err _ _ _ c.in-Err.is c.close-pass.ensures.unsent) in
    let d = c.open_anew.ensures.dear told ne in
    absurd (omega (arith, e, d, same))

pub go_down-pass-requires-clause-struck : goal.go_down-pass-requires-clause-struck
go_down-pass-requires-clause-struck g c =
    subst (IsStruck g.M.Medium g.K.Meanings c.close-pass.result.1 (knows c.close-pass.result.0) c.args.node) (sym c.durable-durable.ensures)
    (rw c.in-Full.is at (if-err _ _ _ c.in-Err.is c.close-pass.ensures.err)).0

pub go_down-pass-requires-clause-cause : goal.go_down-pass-requires-clause-cause
go_down-pass-requires-clause-cause g c = (rw c.in-Full.is at (if-err _ _ _ c.in-Err.is c.close-pass.ensures.err)).1

pub returns-in-Full-clause-sends : goal.returns-in-Full-clause-sends
returns-in-Full-clause-sends g c =
    let q = c.go_down-pass.ensures.trail in
    ([], 0 + q.0, trail-joins (on-err _ _ _ c.in-Err.is c.close-pass.ensures.unsent) q.3, λ t out h. elim h [ ])

pub returns-in-Full-clause-paid : goal.returns-in-Full-clause-paid
returns-in-Full-clause-paid g c =
    let e = trail-cost (on-err _ _ _ c.in-Err.is c.close-pass.ensures.unsent) in
    let q = c.go_down-pass.ensures.trail in
    let f = trail-cost q.3 in
    let few = q.1 in
    pays-none _ _ _ _ (omega (arith, e, f, few)) c.close-pass.ensures.later

pub returns-in-Full-clause-whole : goal.returns-in-Full-clause-whole
returns-in-Full-clause-whole g c = λ told ne same.
    let m = if-err _ _ _ c.in-Err.is c.close-pass.ensures.nothing c.in-Full.pages c.in-Full.is in
    subst (λ x. IsIntact (g.M.Medium.reads (g.K.Meanings.parts c.args.core).medium) (g.M.Medium.reads x)) (sym m)
    (whole-same (g.M.Medium.reads (g.K.Meanings.parts c.args.core).medium))

pub returns-in-Medium-clause-passes : goal.returns-in-Medium-clause-passes
returns-in-Medium-clause-passes g c = λ told. passes-on (c.close-pass.ensures.passes told) (c.open_anew.ensures.passes told)

pub returns-in-Full-clause-passes : goal.returns-in-Full-clause-passes
returns-in-Full-clause-passes g c = λ told. passes-on (c.close-pass.ensures.passes told) (c.go_down-pass.ensures.passes told)

pub returns-in-Ok-clause-closes : goal.returns-in-Ok-clause-closes
returns-in-Ok-clause-closes g c = λ told ne. closes-gated (life_at (knows c.args.pass) c.args.node) (life_at (knows c.close-pass.result.0) c.args.node) (on-ok _ _ _ c.in-Ok.is (c.close-pass.ensures.gated told))

pub returns-in-Ok-clause-gated : goal.returns-in-Ok-clause-gated
returns-in-Ok-clause-gated g c = λ told up same. on-ok _ _ _ c.in-Ok.is (c.close-pass.ensures.gated told)

pub returns-in-NoMemory-clause-closes : goal.returns-in-NoMemory-clause-closes
returns-in-NoMemory-clause-closes g c = λ told ne. absurd (ne refl)

pub returns-in-NoMemory-clause-gated : goal.returns-in-NoMemory-clause-gated
returns-in-NoMemory-clause-gated g c = λ told up same. absurd (up-found condition.Wanting up refl)

pub returns-in-Medium-clause-closes : goal.returns-in-Medium-clause-closes
returns-in-Medium-clause-closes g c = λ told ne. closes-after (life_at (knows c.args.pass) c.args.node) (life_at (knows c.close-pass.result.0) c.args.node) (life_at (knows c.open_anew.result.0) c.args.node) (on-err _ _ _ c.in-Err.is (c.close-pass.ensures.still told)) (c.open_anew.ensures.closes told ne)

pub returns-in-Medium-clause-gated : goal.returns-in-Medium-clause-gated
returns-in-Medium-clause-gated g c = λ told up same.
    let e = trail-cost (on-err _ _ _ c.in-Err.is c.close-pass.ensures.unsent) in
    let d = c.open_anew.ensures.dear told (up-found _ up) in
    absurd (omega (arith, e, d, same))

pub returns-in-Full-clause-closes : goal.returns-in-Full-clause-closes
returns-in-Full-clause-closes g c = λ told ne. closes-after (life_at (knows c.args.pass) c.args.node) (life_at (knows c.close-pass.result.0) c.args.node) (life_at (knows c.go_down-pass.result.0) c.args.node) (on-err _ _ _ c.in-Err.is (c.close-pass.ensures.still told)) (c.go_down-pass.ensures.closes told ne)

pub returns-in-Full-clause-gated : goal.returns-in-Full-clause-gated
returns-in-Full-clause-gated g c = λ told up same. absurd (c.go_down-pass.ensures.stops up)
