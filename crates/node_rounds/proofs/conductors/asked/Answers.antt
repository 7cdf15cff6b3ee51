use Rattle.node_rounds.proofs.Names.{◌≡◌, Some, arith, subst, IfOk, OnErr, Looked, TicksOn, knows}
use Rattle.node_rounds.proofs.TickLemmas.{is-so, wants-more, wants-tick}
use Rattle.node_rounds.proofs.WantedLemmas.{ticked-of}
use Rattle.node_rounds.proofs.conductors.asked.Goals as goal

pub returns-in-Err-clause-next : goal.returns-in-Err-clause-next
returns-in-Err-clause-next g c =
    wants-tick g.M.Medium.tells c.args.limits (knows c.args.pass) (knows c.look-pass.result.0) (knows c.tick-pass.result.0) c.args.shares.now c.in_default.ensures.0
    c.look-pass.ensures.looked (subst (λ r. OnErr r (Looked (knows c.look-pass.result.0) (knows c.tick-pass.result.0))) c.in-Err.is c.tick-pass.ensures.err)

pub returns-in-Err-clause-more : goal.returns-in-Err-clause-more
returns-in-Err-clause-more g c =
    wants-more g.M.Medium.tells c.args.limits (knows c.args.pass) (knows c.look-pass.result.0) (knows c.tick-pass.result.0) c.args.before c.args.shares.now c.in_default.ensures.0 (c.look-pass.ensures.rest (is-so c.look-pass.result.1.idle c.if-not-seen.false)) c.look-pass.ensures.looked (subst (λ r. OnErr r (Looked (knows c.look-pass.result.0) (knows c.tick-pass.result.0))) c.in-Err.is c.tick-pass.ensures.err)
    (omega (arith, c.requires.ticks, c.if-ticks-limits.false))

pub returns-in-Ok-Some-clause-ticked : goal.returns-in-Ok-Some-clause-ticked
returns-in-Ok-Some-clause-ticked g c = λ e.
    let b = knows c.look-pass.result.0 in
    let d = knows c.tick-pass.result.0 in
    let t = subst (λ r. IfOk r (TicksOn b d)) c.in-Ok-Some.is c.tick-pass.ensures.ok in
    let e : c.in-Ok-Some.field-0 ≡ Some c.in-Ok-Some.field-0-0 = rw c.in-Ok-Some.is at c.in-Ok-Some.field-0-is in
    let u = subst (TicksOn b d) e t in
    (c.in_default.ensures.1, ticked-of (knows c.args.pass) b d c.in-Ok-Some.field-0-0 c.look-pass.ensures.looked u.0)
