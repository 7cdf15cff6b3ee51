use Rattle.node_turn.proofs.Names.{Effect, Life, AskNobody, knows, base_at, life_at, ◌∙◌, sym, ap, subst, arith, List, length}
use Rattle.node_inputs.specs.Decisions.{decided_by}
use Rattle.node_inputs.proofs.LifeLemmas.{on-ok, on-err, up-stored, stored-looked, life-looked}
use Rattle.node_inputs.proofs.TrailLemmas.{trail-none, trail-looked, trail-gated}
use Rattle.node_turn.proofs.AppendLemmas.{appended-at, full-same, cause-append, after-append, stored-appended, up-gated, owed-is}
use Rattle.node_turn.proofs.PhaseLemmas.{passes-stored, passes-appended, passes-ungated, passes-closed}
use Rattle.node_turn.proofs.closings.close.Goals as goal

pub returns-in_default-clause-err : goal.returns-in_default-clause-err
returns-in_default-clause-err g c = up-stored c.requires.up

pub returns-in_default-clause-unsent : goal.returns-in_default-clause-unsent
returns-in_default-clause-unsent g c = trail-none c.args.node (knows c.args.pass)

pub returns-in_default-decisions-clause-err : goal.returns-in_default-decisions-clause-err
returns-in_default-decisions-clause-err g c = up-stored c.requires.up

pub returns-in_default-decisions-clause-unsent : goal.returns-in_default-decisions-clause-unsent
returns-in_default-decisions-clause-unsent g c = trail-none c.args.node (knows c.args.pass)

pub returns-in_default-checked_add-clause-err : goal.returns-in_default-checked_add-clause-err
returns-in_default-checked_add-clause-err g c = up-stored c.requires.up

pub returns-in_default-checked_add-clause-unsent : goal.returns-in_default-checked_add-clause-unsent
returns-in_default-checked_add-clause-unsent g c = trail-none c.args.node (knows c.args.pass)

pub returns-in-Err-clause-err : goal.returns-in-Err-clause-err
returns-in-Err-clause-err g c = after-append c.requires.up (appended-at (c.as_slice-2.ensures.value ∙ c.into_parts-effects.ensures.effects) c.append-core.ensures) g.met.M.Medium.reads_now c.in-Err.fault c.in-Err.is

pub returns-in-Err-clause-unsent : goal.returns-in-Err-clause-unsent
returns-in-Err-clause-unsent g c = trail-none c.args.node (knows c.args.pass)

pub returns-in-Err-clause-later : goal.returns-in-Err-clause-later
returns-in-Err-clause-later g c = c.append-core.ensures.same.later

pub returns-in-Err-clause-nothing : goal.returns-in-Err-clause-nothing
returns-in-Err-clause-nothing g c = full-same c.requires.up (appended-at (c.as_slice-2.ensures.value ∙ c.into_parts-effects.ensures.effects) c.append-core.ensures) c.in-Err.fault c.in-Err.is

pub returns-in-Err-clause-cause : goal.returns-in-Err-clause-cause
returns-in-Err-clause-cause g c = λ e. cause-append c.requires.up (appended-at (c.as_slice-2.ensures.value ∙ c.into_parts-effects.ensures.effects) c.append-core.ensures) c.in-Err.fault c.in-Err.is (cc e)

pub returns-in-Err-gated-clause-err : goal.returns-in-Err-gated-clause-err
returns-in-Err-gated-clause-err g c = stored-looked (stored-appended c.requires.up (appended-at (c.as_slice-2.ensures.value ∙ c.into_parts-effects.ensures.effects) c.append-core.ensures) _ c.in-Ok-appended.is) (on-err _ _ _ c.in-Err-gated.is c.gate-pass.ensures.err)

pub returns-in-Err-gated-clause-unsent : goal.returns-in-Err-gated-clause-unsent
returns-in-Err-gated-clause-unsent g c = trail-looked c.args.node c.requires.up.own c.requires.pass.own (on-err _ _ _ c.in-Err-gated.is c.gate-pass.ensures.err)

pub returns-in-Err-gated-clause-later : goal.returns-in-Err-gated-clause-later
returns-in-Err-gated-clause-later g c = c.append-core.ensures.same.later

pub returns-clause-up : goal.returns-clause-up
returns-clause-up g c = up-gated c.requires.up (appended-at (c.as_slice-2.ensures.value ∙ c.into_parts-effects.ensures.effects) c.append-core.ensures) _ c.in-Ok-appended.is c.in-Some.durable (let x = c.in-Some.ensures in let y = ap (λ (l : List Effect). length l) c.into_parts-effects.ensures.effects in omega (arith, x, y, c.len.ensures, c.durable-before.ensures)) (on-ok _ _ _ c.in-Ok-gated.is c.gate-pass.ensures.ok)

pub returns-clause-sent : goal.returns-clause-sent
returns-clause-sent g c = trail-gated c.args.node c.requires.up.own c.requires.pass.own (on-ok _ _ _ c.in-Ok-gated.is c.gate-pass.ensures.ok)

pub returns-clause-later : goal.returns-clause-later
returns-clause-later g c = c.append-core.ensures.same.later

pub returns-clause-intact : goal.returns-clause-intact
returns-clause-intact g c = λ t. on-ok _ _ _ c.in-Ok-appended.is (c.append-core.ensures.intact t)

pub gate-pass-requires-clause-owed : goal.gate-pass-requires-clause-owed
gate-pass-requires-clause-owed g c = λ t.
    let k = knows c.args.pass in
    let h = c.requires.up.life t in
    let o = c.into_parts-effects.ensures.outs ∙ h.outs in
    owed-is k c.args.node c.into_parts-effects.result.1.items c.in-Ok.outs.items o
    (c.in-Ok.ensures.leaving t (base_at k) (life_at k c.args.node) h.core (λ broker. subst AskNobody (sym o) (h.asks broker)))

pub gate-pass-requires-clause-decides : goal.gate-pass-requires-clause-decides
gate-pass-requires-clause-decides g c = λ t.
    c.as_slice-in-Ok-appended.ensures.value ∙ (c.in-Ok-decisions.ensures ∙ ap (decided_by c.args.node) (c.as_slice.ensures.value ∙ (c.into_parts-effects.ensures.effects ∙ (c.requires.up.life t).effects)))

pub returns-in_default-clause-passes : goal.returns-in_default-clause-passes
returns-in_default-clause-passes g c = λ told. passes-stored g.M.Medium g.met.M.Medium.only_now (up-stored c.requires.up) told

pub returns-in_default-decisions-clause-passes : goal.returns-in_default-decisions-clause-passes
returns-in_default-decisions-clause-passes g c = λ told. passes-stored g.M.Medium g.met.M.Medium.only_now (up-stored c.requires.up) told

pub returns-in_default-checked_add-clause-passes : goal.returns-in_default-checked_add-clause-passes
returns-in_default-checked_add-clause-passes g c = λ told. passes-stored g.M.Medium g.met.M.Medium.only_now (up-stored c.requires.up) told

pub returns-in-Err-clause-passes : goal.returns-in-Err-clause-passes
returns-in-Err-clause-passes g c = λ told. passes-appended g.M.Medium g.met.M.Medium.only_now c.requires.up (appended-at (c.as_slice-2.ensures.value ∙ c.into_parts-effects.ensures.effects) c.append-core.ensures) told

pub returns-in-Err-gated-clause-passes : goal.returns-in-Err-gated-clause-passes
returns-in-Err-gated-clause-passes g c = λ told. passes-ungated g.M.Medium g.met.M.Medium.only_now c.requires.up (appended-at (c.as_slice-2.ensures.value ∙ c.into_parts-effects.ensures.effects) c.append-core.ensures) told c.requires.pass.own (on-err _ _ _ c.in-Err-gated.is c.gate-pass.ensures.err)

pub returns-clause-passes : goal.returns-clause-passes
returns-clause-passes g c = λ told. passes-closed g.M.Medium g.met.M.Medium.only_now c.requires.up (appended-at (c.as_slice-2.ensures.value ∙ c.into_parts-effects.ensures.effects) c.append-core.ensures) told _ c.in-Ok-appended.is c.requires.pass.own (on-ok _ _ _ c.in-Ok-gated.is c.gate-pass.ensures.ok)

pub returns-in-Err-gated-clause-still : goal.returns-in-Err-gated-clause-still
returns-in-Err-gated-clause-still g c = λ told. life-looked c.args.node c.requires.up.own (on-err _ _ _ c.in-Err-gated.is c.gate-pass.ensures.err)

pub returns-clause-gated : goal.returns-clause-gated
returns-clause-gated g c = λ told. ap (λ (l : Life). l.gated) ((on-ok _ _ _ c.in-Ok-gated.is c.gate-pass.ensures.ok).lives told)
