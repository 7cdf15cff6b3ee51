use Rattle.node_turn.proofs.Names.{knows, base_at, life_at, costs, PaysFor, ◌<◌, ◌+◌, ◌∙◌, ℕ, refl, sym, subst, arith, [], up-known}
use Rattle.node_turn.proofs.CostLemmas.{pays-none}
use Rattle.node_inputs.proofs.LifeLemmas.{on-ok, on-err, stored-looked}
use Rattle.node_inputs.proofs.TrailLemmas.{trail-none, trail-looked, trail-added, trail-cost, grew-added}
use Rattle.node_turn.proofs.PhaseLemmas.{passes-on, passes-reopened, passes-unnoted, passes-crashed}
use Rattle.node_turn.proofs.FallLemmas.{crash-few, up-crashed, stored-reopened, struck-reopened, opening-cause, opening-pays, opening-dear}
use Rattle.node_turn.proofs.SettleLemmas.{closes-crashed}
use Rattle.node_turn.proofs.falls.open_anew.Goals as goal

pub note_crash-pass-requires-clause-kept : goal.note_crash-pass-requires-clause-kept
note_crash-pass-requires-clause-kept g c = crash-few c.requires.struck c.reopen-core.ensures c.in-Ok.found c.in-Ok.is

pub returns-in-Ok-noted-clause-keeps : goal.returns-in-Ok-noted-clause-keeps
returns-in-Ok-noted-clause-keeps g c =
    up-crashed c.requires.struck c.reopen-core.ensures c.in-Ok.found c.in-Ok.is (on-ok _ _ _ c.in-Ok-noted.is c.note_crash-pass.ensures.ok) (up-known (base_at (knows c.args.pass)) (knows c.args.pass).story c.args.node c.requires.struck.up)

pub returns-in-Ok-noted-clause-trail : goal.returns-in-Ok-noted-clause-trail
returns-in-Ok-noted-clause-trail g c =
    (1, trail-added c.args.node [] 1 c.requires.struck.stored.own c.requires.pass.own refl refl refl (on-ok _ _ _ c.in-Ok-noted.is c.note_crash-pass.ensures.ok).added)

pub returns-in-Ok-noted-clause-paid : goal.returns-in-Ok-noted-clause-paid
returns-in-Ok-noted-clause-paid g c =
    let e = trail-cost (trail-added c.args.node [] 1 c.requires.struck.stored.own c.requires.pass.own refl refl refl (on-ok _ _ _ c.in-Ok-noted.is c.note_crash-pass.ensures.ok).added) in
    pays-none _ _ _ _ (omega (arith, e)) c.reopen-core.ensures.same.later

pub returns-in-Ok-noted-clause-dear : goal.returns-in-Ok-noted-clause-dear
returns-in-Ok-noted-clause-dear g c = λ told ne.
    let e = trail-cost (trail-added c.args.node [] 1 c.requires.struck.stored.own c.requires.pass.own refl refl refl (on-ok _ _ _ c.in-Ok-noted.is c.note_crash-pass.ensures.ok).added) in
    omega (arith, e)

pub returns-in-Err-noted-clause-keeps : goal.returns-in-Err-noted-clause-keeps
returns-in-Err-noted-clause-keeps g c = stored-looked (stored-reopened c.requires.struck c.reopen-core.ensures) (on-err _ _ _ c.in-Err-noted.is c.note_crash-pass.ensures.err)

pub returns-in-Err-noted-clause-trail : goal.returns-in-Err-noted-clause-trail
returns-in-Err-noted-clause-trail g c = (0, trail-looked c.args.node c.requires.struck.stored.own c.requires.pass.own (on-err _ _ _ c.in-Err-noted.is c.note_crash-pass.ensures.err))

pub returns-in-Err-noted-clause-paid : goal.returns-in-Err-noted-clause-paid
returns-in-Err-noted-clause-paid g c =
    let e = trail-cost (trail-looked c.args.node c.requires.struck.stored.own c.requires.pass.own (on-err _ _ _ c.in-Err-noted.is c.note_crash-pass.ensures.err)) in
    pays-none _ _ _ _ (omega (arith, e)) c.reopen-core.ensures.same.later

pub returns-in-Err-noted-clause-dear : goal.returns-in-Err-noted-clause-dear
returns-in-Err-noted-clause-dear g c = λ told ne. absurd (ne refl)

pub returns-in-None-clause-keeps : goal.returns-in-None-clause-keeps
returns-in-None-clause-keeps g c = stored-reopened c.requires.struck c.reopen-core.ensures

pub returns-in-None-clause-trail : goal.returns-in-None-clause-trail
returns-in-None-clause-trail g c = (0, trail-none c.args.node (knows c.args.pass))

pub returns-in-None-clause-paid : goal.returns-in-None-clause-paid
returns-in-None-clause-paid g c = pays-none _ _ _ _ (omega arith) c.reopen-core.ensures.same.later

pub returns-in-None-clause-dear : goal.returns-in-None-clause-dear
returns-in-None-clause-dear g c = λ told ne. absurd (ne refl)

pub go_down-pass-requires-clause-struck : goal.go_down-pass-requires-clause-struck
go_down-pass-requires-clause-struck g c = struck-reopened c.requires.struck c.reopen-core.ensures

pub go_down-pass-requires-clause-cause : goal.go_down-pass-requires-clause-cause
go_down-pass-requires-clause-cause g c = opening-cause c.requires.struck c.reopen-core.ensures c.in-Err.fault c.in-Some.cause c.in-Err.is (sym c.down_cause.ensures ∙ c.in-Some.is)

pub returns-in-Some-clause-paid : goal.returns-in-Some-clause-paid
returns-in-Some-clause-paid g c =
    let t = c.go_down-pass.ensures.trail in
    subst (λ (x : ℕ). PaysFor (costs (knows c.args.pass).own + 1) (g.M.Medium.faults (g.K.Meanings.parts c.args.core).medium) x (g.M.Medium.faults (g.K.Meanings.parts c.reopen-core.result.0).medium)) (sym (trail-cost t.3))
    (opening-pays c.requires.struck c.reopen-core.ensures c.in-Err.fault c.in-Some.cause (costs (knows c.args.pass).own) t.0 c.in-Err.is (sym c.down_cause.ensures ∙ c.in-Some.is) t.1)

pub returns-in-Some-clause-dear : goal.returns-in-Some-clause-dear
returns-in-Some-clause-dear g c = λ told ne.
    let t = c.go_down-pass.ensures.trail in
    subst (λ (x : ℕ). costs (knows c.args.pass).own < x) (sym (trail-cost t.3))
    (opening-dear c.requires.struck c.reopen-core.ensures c.in-Err.fault c.in-Some.cause (costs (knows c.args.pass).own) t.0 c.in-Err.is (sym c.down_cause.ensures ∙ c.in-Some.is) (t.2 ne) told)

pub returns-in-Ok-noted-clause-grew : goal.returns-in-Ok-noted-clause-grew
returns-in-Ok-noted-clause-grew g c = λ w. grew-added (on-ok _ _ _ c.in-Ok-noted.is c.note_crash-pass.ensures.ok).added

pub returns-in-Some-clause-grew : goal.returns-in-Some-clause-grew
returns-in-Some-clause-grew g c = λ w. absurd (c.go_down-pass.ensures.stops w)

pub returns-in-Ok-noted-clause-passes : goal.returns-in-Ok-noted-clause-passes
returns-in-Ok-noted-clause-passes g c = λ told. passes-crashed g.M.Medium g.met.M.Medium.only_now c.requires.struck c.reopen-core.ensures told c.in-Ok.found c.in-Ok.is c.requires.pass.own (on-ok _ _ _ c.in-Ok-noted.is c.note_crash-pass.ensures.ok)

pub returns-in-Err-noted-clause-passes : goal.returns-in-Err-noted-clause-passes
returns-in-Err-noted-clause-passes g c = λ told. passes-unnoted g.M.Medium g.met.M.Medium.only_now c.requires.struck c.reopen-core.ensures told c.requires.pass.own (on-err _ _ _ c.in-Err-noted.is c.note_crash-pass.ensures.err)

pub returns-in-None-clause-passes : goal.returns-in-None-clause-passes
returns-in-None-clause-passes g c = λ told. passes-reopened g.M.Medium g.met.M.Medium.only_now c.requires.struck c.reopen-core.ensures told

pub returns-in-Some-clause-passes : goal.returns-in-Some-clause-passes
returns-in-Some-clause-passes g c = λ told. passes-on (passes-reopened g.M.Medium g.met.M.Medium.only_now c.requires.struck c.reopen-core.ensures told) (c.go_down-pass.ensures.passes told)

pub returns-in-Ok-noted-clause-closes : goal.returns-in-Ok-noted-clause-closes
returns-in-Ok-noted-clause-closes g c = λ told ne. closes-crashed _ _ (life_at (knows c.args.pass) c.args.node) (life_at (knows c.note_crash-pass.result.0) c.args.node) ((on-ok _ _ _ c.in-Ok-noted.is c.note_crash-pass.ensures.ok).lives told)

pub returns-in-Err-noted-clause-closes : goal.returns-in-Err-noted-clause-closes
returns-in-Err-noted-clause-closes g c = λ told ne. absurd (ne refl)

pub returns-in-None-clause-closes : goal.returns-in-None-clause-closes
returns-in-None-clause-closes g c = λ told ne. absurd (ne refl)
