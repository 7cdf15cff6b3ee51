use Rattle.node_turn.proofs.Names.{knows, Image, is_broker, IsIntact, DraftParts, IsUp, IsAfter, ◌+◌, ◌∙◌, ◌||◌, Bool, refl, sym, ap, subst, arith, Ok, Err, true, false}
use Rattle.node_turn.proofs.CostLemmas.{pays-none}
use Rattle.node_inputs.proofs.LifeLemmas.{if-ok, if-err, either-gone}
use Rattle.node_turn.proofs.PhaseLemmas.{passes-on, passes-up, passes-after, up-new}
use Rattle.node_turn.proofs.PageLemmas.{whole-same}
use Rattle.node_turn.proofs.SeekLemmas.{tested-none, tested-after}
use Rattle.node_inputs.proofs.TrailLemmas.{trail-joins, trail-cost, adds-more, grew-more, more-grew}
use Rattle.node_turn.proofs.turns.work.Goals as goal

pub give_up-pass-requires-clause-after : goal.give_up-pass-requires-clause-after
give_up-pass-requires-clause-after g c =
    subst (IsAfter g.M.Medium g.K.Meanings c.in-Err.fault c.begin-pass.new.core (knows c.begin-pass.result.0) c.args.node)
    (ap (λ (d : DraftParts). d.durable) c.new-draft.ensures) (if-err _ _ _ c.in-Err.is c.begin-pass.ensures.err)

pub returns-in-Err-clause-paid : goal.returns-in-Err-clause-paid
returns-in-Err-clause-paid g c =
    let e = trail-cost c.begin-pass.ensures.trail in
    λ first r. c.give_up-pass.ensures.paid (g.M.Medium.faults (g.K.Meanings.parts c.args.hand.core).medium) (λ m. c.begin-pass.ensures.cause (c.in-Err.is ∙ ap (λ f. Err f) m)) c.begin-pass.ensures.unwritten.later
    first (pays-none _ _ _ _ (omega (arith, e)) (omega arith) first r)

pub returns-in-Err-clause-whole : goal.returns-in-Err-clause-whole
returns-in-Err-clause-whole g c = λ told ne same.
    let e = trail-cost c.begin-pass.ensures.trail in
    let d = c.give_up-pass.ensures.dear told ne in
    absurd (omega (arith, e, d, same))

pub returns-in-Err-clause-tested : goal.returns-in-Err-clause-tested
returns-in-Err-clause-tested g c = λ told repository.
    let q = c.give_up-pass.ensures.trail in
    tested-none c.args.node (knows c.args.pass) (knows c.give_up-pass.result.0) (0 + q.0) (trail-joins c.begin-pass.ensures.trail q.1)

pub returns-in-Err-clause-adds : goal.returns-in-Err-clause-adds
returns-in-Err-clause-adds g c =
    let t = c.begin-pass.ensures.trail in
    let q = c.give_up-pass.ensures.trail.1 in
    adds-more (knows c.args.pass).own (knows c.begin-pass.result.0).own (knows c.give_up-pass.result.0).own (t.own, t.adds) (q.own, q.adds)

pub returns-in-Err-clause-quiet : goal.returns-in-Err-clause-quiet
returns-in-Err-clause-quiet g c = λ w.
    let t = c.begin-pass.ensures.trail in
    more-grew (knows c.args.pass).own (knows c.begin-pass.result.0).own (knows c.give_up-pass.result.0).own (t.own, t.adds) (c.give_up-pass.ensures.grew w)

pub finish-pass-requires-clause-up : goal.finish-pass-requires-clause-up
finish-pass-requires-clause-up g c =
    let up = λ (gone begun : Bool). IsUp g.M.Medium g.K.Meanings c.begin-pass.new.core (knows c.begin-pass.result.0) c.args.node gone begun c.begin-pass.new.draft in
    subst (λ (gone : Bool). up gone true) (sym c.has_gone-gone.ensures)
    (subst (λ (begun : Bool). up (c.args.hand.gone || is_broker c.args.node.kind) begun) c.if-started.true (if-ok _ _ _ c.in-Ok.is c.begin-pass.ensures.up))

pub finish-pass-requires-clause-gone : goal.finish-pass-requires-clause-gone
finish-pass-requires-clause-gone g c = λ h. c.has_gone-gone.ensures ∙ either-gone c.args.hand.gone (is_broker c.args.node.kind) h

pub returns-then-started-clause-paid : goal.returns-then-started-clause-paid
returns-then-started-clause-paid g c =
    let e = trail-cost c.begin-pass.ensures.trail in
    λ first r. c.finish-pass.ensures.paid first (pays-none _ _ _ _ (omega (arith, e)) c.begin-pass.ensures.unwritten.later first r)

pub returns-then-started-clause-whole : goal.returns-then-started-clause-whole
returns-then-started-clause-whole g c = λ told ne same.
    let e = trail-cost c.begin-pass.ensures.trail in
    subst (λ (x : Image). IsIntact x (g.M.Medium.reads (g.K.Meanings.parts c.finish-pass.result.1.core).medium))
    (c.begin-pass.ensures.unwritten.still told) (c.finish-pass.ensures.whole told ne (omega (arith, e, same)))

pub returns-then-started-clause-tested : goal.returns-then-started-clause-tested
returns-then-started-clause-tested g c = λ told repository.
    tested-after c.args.node (knows c.args.pass) (knows c.begin-pass.result.0) (knows c.finish-pass.result.0) c.begin-pass.ensures.trail (c.finish-pass.ensures.tested told repository)

pub returns-then-started-clause-adds : goal.returns-then-started-clause-adds
returns-then-started-clause-adds g c =
    let t = c.begin-pass.ensures.trail in
    adds-more (knows c.args.pass).own (knows c.begin-pass.result.0).own (knows c.finish-pass.result.0).own (t.own, t.adds) c.finish-pass.ensures.adds

pub returns-then-started-clause-quiet : goal.returns-then-started-clause-quiet
returns-then-started-clause-quiet g c = λ w. grew-more (knows c.args.pass).own (knows c.begin-pass.result.0).own (knows c.finish-pass.result.0).own (c.begin-pass.ensures.grew (c.in-Ok.is ∙ ap (λ b. Ok b) c.if-started.true)) c.finish-pass.ensures.adds

pub returns-clause-keeps : goal.returns-clause-keeps
returns-clause-keeps g c =
    let up = λ (gone begun : Bool) (d : DraftParts). IsUp g.M.Medium g.K.Meanings c.begin-pass.new.core (knows c.begin-pass.result.0) c.args.node gone begun d in
    let q = c.begin-pass.ensures.quiet (c.in-Ok.is ∙ ap (λ b. Ok b) c.if-started.false) in
    subst (λ (d : DraftParts). up c.has_gone-gone.result false d) (q.1 ∙ c.new-draft.ensures)
    (subst (λ (gone : Bool). up gone false c.begin-pass.new.draft) (sym c.has_gone-gone.ensures)
    (subst (λ (begun : Bool). up (c.args.hand.gone || is_broker c.args.node.kind) begun c.begin-pass.new.draft) c.if-started.false (if-ok _ _ _ c.in-Ok.is c.begin-pass.ensures.up)))

pub returns-clause-paid : goal.returns-clause-paid
returns-clause-paid g c =
    let e = trail-cost c.begin-pass.ensures.trail in
    pays-none _ _ _ _ (omega (arith, e)) c.begin-pass.ensures.unwritten.later

pub returns-clause-whole : goal.returns-clause-whole
returns-clause-whole g c = λ told ne same.
    subst (λ (x : Image). IsIntact (g.M.Medium.reads (g.K.Meanings.parts c.args.hand.core).medium) x)
    (sym (c.begin-pass.ensures.unwritten.still told)) (whole-same (g.M.Medium.reads (g.K.Meanings.parts c.args.hand.core).medium))

pub returns-clause-tested : goal.returns-clause-tested
returns-clause-tested g c = λ told repository. tested-none c.args.node (knows c.args.pass) (knows c.begin-pass.result.0) 0 c.begin-pass.ensures.trail

pub returns-clause-adds : goal.returns-clause-adds
returns-clause-adds g c = let t = c.begin-pass.ensures.trail in (t.own, t.adds)

pub returns-clause-quiet : goal.returns-clause-quiet
returns-clause-quiet g c = ((c.begin-pass.ensures.quiet (c.in-Ok.is ∙ ap (λ b. Ok b) c.if-started.false)).0, refl)

pub returns-in-Err-clause-passes : goal.returns-in-Err-clause-passes
returns-in-Err-clause-passes g c = λ told ne.
    let p = c.begin-pass.ensures in
    passes-on
    (passes-after g.M.Medium g.met.M.Medium.only_now (up-new (sym c.new-draft.ensures) c.requires.up) p.trail (p.unwritten.stages_still told) told c.in-Err.fault (if-err _ _ _ c.in-Err.is p.err) (λ e. ne (c.give_up-pass.ensures.wanting e)))
    (c.give_up-pass.ensures.passes told)

pub returns-then-started-clause-passes : goal.returns-then-started-clause-passes
returns-then-started-clause-passes g c = λ told ne.
    let p = c.begin-pass.ensures in
    passes-on
    (passes-up g.M.Medium g.met.M.Medium.only_now (up-new (sym c.new-draft.ensures) c.requires.up) p.trail (p.unwritten.stages_still told) told (if-ok _ _ _ c.in-Ok.is p.up) p.durable)
    (c.finish-pass.ensures.passes told ne)

pub returns-clause-passes : goal.returns-clause-passes
returns-clause-passes g c = λ told ne.
    let p = c.begin-pass.ensures in
    passes-up g.M.Medium g.met.M.Medium.only_now (up-new (sym c.new-draft.ensures) c.requires.up) p.trail (p.unwritten.stages_still told) told (if-ok _ _ _ c.in-Ok.is p.up) p.durable
