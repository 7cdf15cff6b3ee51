use Rattle.node_turn.proofs.Names.{knows, Image, DraftParts, Effect, List, IsIntact, life_at, IsUp, IsAfter, ◌∙◌, Bool, sym, ap, subst, arith, Ok, Err, refl}
use Rattle.node_turn.specs.Settles.{AreKnown}
use Rattle.node_turn.proofs.CostLemmas.{pays-none}
use Rattle.node_inputs.proofs.LifeLemmas.{on-ok, if-ok, if-err}
use Rattle.node_turn.proofs.PhaseLemmas.{passes-on, passes-up, passes-after, up-new}
use Rattle.node_inputs.proofs.TrailLemmas.{trail-joins, trail-cost}
use Rattle.node_turn.proofs.PageLemmas.{whole-same}
use Rattle.node_turn.proofs.SettleLemmas.{known-rest, learns-closed, closes-none, up-found}
use Rattle.node_turn.proofs.settling.settle.Goals as goal

pub give_up-requires-clause-after : goal.give_up-requires-clause-after
give_up-requires-clause-after g c =
    subst (IsAfter g.M.Medium g.K.Meanings c.in-Err.fault c.learn_all-pass.new.core (knows c.learn_all-pass.result.0) c.args.node)
    (ap (λ (d : DraftParts). d.durable) c.new-draft.ensures) (if-err _ _ _ c.in-Err.is c.learn_all-pass.ensures.err)

pub returns-in-Err-clause-paid : goal.returns-in-Err-clause-paid
returns-in-Err-clause-paid g c =
    let e = trail-cost c.learn_all-pass.ensures.trail.1 in
    λ first r. c.give_up.ensures.paid (g.M.Medium.faults (g.K.Meanings.parts c.args.hand.core).medium) (λ m. c.learn_all-pass.ensures.cause (c.in-Err.is ∙ ap (λ f. Err f) m)) c.learn_all-pass.ensures.unwritten.later
    first (pays-none _ _ _ _ (omega (arith, e)) (omega arith) first r)

pub returns-in-Err-clause-whole : goal.returns-in-Err-clause-whole
returns-in-Err-clause-whole g c = λ told ne same.
    let e = trail-cost c.learn_all-pass.ensures.trail.1 in
    let d = c.give_up.ensures.dear told ne in
    absurd (omega (arith, e, d, same))

pub returns-in-Err-clause-passes : goal.returns-in-Err-clause-passes
returns-in-Err-clause-passes g c = λ told ne.
    let p = c.learn_all-pass.ensures in
    passes-on
    (passes-after g.M.Medium g.met.M.Medium.only_now c.requires.up p.trail.1 (p.unwritten.stages_still told) told c.in-Err.fault
    (subst (IsAfter g.M.Medium g.K.Meanings c.in-Err.fault c.learn_all-pass.new.core (knows c.learn_all-pass.result.0) c.args.node)
    (ap (λ (d : DraftParts). d.durable) c.new-draft.ensures) (if-err _ _ _ c.in-Err.is p.err)) (λ e. ne (c.give_up.ensures.wanting e)))
    (c.give_up.ensures.passes told)

pub returns-in-Err-clause-adds : goal.returns-in-Err-clause-adds
returns-in-Err-clause-adds g c =
    let t = trail-joins c.learn_all-pass.ensures.trail.1 c.give_up.ensures.trail.1 in
    (t.own, t.adds)

pub returns-in-Err-clause-grown : goal.returns-in-Err-clause-grown
returns-in-Err-clause-grown g c = λ told ne. learns-closed (life_at (knows c.args.pass) c.args.node) (life_at (knows c.learn_all-pass.result.0) c.args.node) (life_at (knows c.give_up.result.0) c.args.node) (sym (c.requires.up.life told).effects) (c.learn_all-pass.ensures.learning told) (c.give_up.ensures.closes told ne)

pub returns-in-Err-clause-known : goal.returns-in-Err-clause-known
returns-in-Err-clause-known g c = λ told up same.
    let e = trail-cost c.learn_all-pass.ensures.trail.1 in
    let d = c.give_up.ensures.dear told (up-found _ up) in
    absurd (omega (arith, e, d, same))

pub end-requires-clause-up : goal.end-requires-clause-up
end-requires-clause-up g c =
    subst (λ (b : Bool). IsUp g.M.Medium g.K.Meanings c.learn_all-pass.new.core (knows c.learn_all-pass.result.0) c.args.node c.args.hand.gone b c.learn_all-pass.new.draft) c.if-due.true
    (if-ok _ _ _ c.in-Ok.is c.learn_all-pass.ensures.up)

pub returns-then-due-clause-paid : goal.returns-then-due-clause-paid
returns-then-due-clause-paid g c =
    let e = trail-cost c.learn_all-pass.ensures.trail.1 in
    λ first r. c.end.ensures.paid first (pays-none _ _ _ _ (omega (arith, e)) c.learn_all-pass.ensures.unwritten.later first r)

pub returns-then-due-clause-whole : goal.returns-then-due-clause-whole
returns-then-due-clause-whole g c = λ told ne same.
    let e = trail-cost c.learn_all-pass.ensures.trail.1 in
    subst (λ (x : Image). IsIntact x (g.M.Medium.reads (g.K.Meanings.parts c.end.result.1.core).medium))
    (c.learn_all-pass.ensures.unwritten.still told) (c.end.ensures.whole told ne (omega (arith, e, same)))

pub returns-then-due-clause-passes : goal.returns-then-due-clause-passes
returns-then-due-clause-passes g c = λ told ne.
    let p = c.learn_all-pass.ensures in
    passes-on
    (passes-up g.M.Medium g.met.M.Medium.only_now c.requires.up p.trail.1 (p.unwritten.stages_still told) told (if-ok _ _ _ c.in-Ok.is p.up) (p.durable ∙ ap (λ (d : DraftParts). d.durable) c.new-draft.ensures))
    (c.end.ensures.passes told)

pub returns-then-due-clause-adds : goal.returns-then-due-clause-adds
returns-then-due-clause-adds g c =
    let t = trail-joins c.learn_all-pass.ensures.trail.1 c.end.ensures.sends.2 in
    (t.own, t.adds)

pub returns-then-due-clause-grown : goal.returns-then-due-clause-grown
returns-then-due-clause-grown g c = λ told ne. learns-closed (life_at (knows c.args.pass) c.args.node) (life_at (knows c.learn_all-pass.result.0) c.args.node) (life_at (knows c.end.result.0) c.args.node) (sym (c.requires.up.life told).effects) (c.learn_all-pass.ensures.learning told) (c.end.ensures.closes told ne)

pub returns-then-due-clause-known : goal.returns-then-due-clause-known
returns-then-due-clause-known g c = λ told up same.
    let e = trail-cost c.learn_all-pass.ensures.trail.1 in
    subst (λ (log : List Effect). AreKnown log c.args.decisions.now) (sym (c.end.ensures.gated told up (omega (arith, e, same)))) (on-ok _ _ _ c.in-Ok.is (c.learn_all-pass.ensures.known told))

pub returns-clause-keeps : goal.returns-clause-keeps
returns-clause-keeps g c =
    up-new (c.learn_all-pass.ensures.none (c.in-Ok.is ∙ ap (λ b. Ok b) c.if-due.false) ∙ c.new-draft.ensures)
    (subst (λ (b : Bool). IsUp g.M.Medium g.K.Meanings c.learn_all-pass.new.core (knows c.learn_all-pass.result.0) c.args.node c.args.hand.gone b c.learn_all-pass.new.draft) c.if-due.false
    (if-ok _ _ _ c.in-Ok.is c.learn_all-pass.ensures.up))

pub returns-clause-paid : goal.returns-clause-paid
returns-clause-paid g c =
    let e = trail-cost c.learn_all-pass.ensures.trail.1 in
    pays-none _ _ _ _ (omega (arith, e)) c.learn_all-pass.ensures.unwritten.later

pub returns-clause-whole : goal.returns-clause-whole
returns-clause-whole g c = λ told ne same.
    subst (λ (x : Image). IsIntact (g.M.Medium.reads (g.K.Meanings.parts c.args.hand.core).medium) x) (sym (c.learn_all-pass.ensures.unwritten.still told))
    (whole-same (g.M.Medium.reads (g.K.Meanings.parts c.args.hand.core).medium))

pub returns-clause-passes : goal.returns-clause-passes
returns-clause-passes g c = λ told ne.
    let p = c.learn_all-pass.ensures in
    passes-up g.M.Medium g.met.M.Medium.only_now c.requires.up p.trail.1 (p.unwritten.stages_still told) told (if-ok _ _ _ c.in-Ok.is p.up) (p.durable ∙ ap (λ (d : DraftParts). d.durable) c.new-draft.ensures)

pub returns-clause-adds : goal.returns-clause-adds
returns-clause-adds g c = let t = c.learn_all-pass.ensures.trail.1 in (t.own, t.adds)

pub returns-clause-grown : goal.returns-clause-grown
returns-clause-grown g c = λ told ne. learns-closed (life_at (knows c.args.pass) c.args.node) (life_at (knows c.learn_all-pass.result.0) c.args.node) (life_at (knows c.learn_all-pass.result.0) c.args.node) (sym (c.requires.up.life told).effects) (c.learn_all-pass.ensures.learning told)
    (closes-none (life_at (knows c.learn_all-pass.result.0) c.args.node) (life_at (knows c.learn_all-pass.result.0) c.args.node) refl)

pub returns-clause-known : goal.returns-clause-known
returns-clause-known g c = λ told up same.
    let u = if-ok _ _ _ c.in-Ok.is c.learn_all-pass.ensures.up in
    let d = c.learn_all-pass.ensures.none (c.in-Ok.is ∙ ap (λ b. Ok b) c.if-due.false) ∙ c.new-draft.ensures in
    known-rest (life_at (knows c.learn_all-pass.result.0) c.args.node) c.args.decisions.now (sym (u.life told).effects ∙ ap (λ (x : DraftParts). x.effects) d) (on-ok _ _ _ c.in-Ok.is (c.learn_all-pass.ensures.known told))
