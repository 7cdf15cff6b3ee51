use Rattle.seat_lock.specs.Words.{base_of}
use Rattle.run_rounds.proofs.Names.{FirstRefusal, IsInRange, IsOpen, IsSetUp, IsEndFor, tellers, rules, ◌≡◌, Some, slice_get, inr, sym, subst, ap, All}
use Rattle.run_rounds.specs.declared.ends.End.TheVariants as end
use Rattle.run_rounds.specs.Ends.{IsOver, IsUnopened}
use Rattle.run_rounds.specs.Finishes.{EndsTo}
use Rattle.run_rounds.proofs.BackLemmas.{opened-in-range}
use Rattle.run_rounds.proofs.BeginLemmas.{ends-refused, ends-set-up, ends-wanting, ends-weaker, has-begun}
use Rattle.run_rounds.proofs.SoundLemmas.{sound-of}
use Rattle.run_rounds.proofs.runs.carry_out.Goals as goal

pub first_refusal-requires-clause-in_range : goal.first_refusal-requires-clause-in_range
first_refusal-requires-clause-in_range g c =
    subst (All IsInRange) (sym c.as_slice.ensures.value) (opened-in-range g.M.Medium c.requires.opened.0 c.args.openings.items c.requires.opened.1)

pub returns-in-Some : goal.returns-in-Some
returns-in-Some g c = λ first opened.
    let w = g.M.Medium in
    subst (λ left. EndsTo w (IsOver c.args.course c.args.plan.now) c.args.plan.now (tellers (g.F.Fates.asked c.args.fates) (g.F.Fates.asked c.unbegun.result.fates) (g.C.Clock.answers c.args.clock) (g.C.Clock.answers c.unbegun.result.clock)) first left c.unbegun.result.end) (sym c.unbegun.ensures.media)
    (ends-refused w (IsOver c.args.course c.args.plan.now) c.args.plan.now (tellers (g.F.Fates.asked c.args.fates) (g.F.Fates.asked c.unbegun.result.fates) (g.C.Clock.answers c.args.clock) (g.C.Clock.answers c.unbegun.result.clock)) first c.args.openings.items opened c.unbegun.result.end c.in-Some.refusal
    (subst (IsEndFor c.in-Some.refusal) (sym c.unbegun.ensures.end) c.refused.ensures) c.requires.count
    (subst (λ os. FirstRefusal c.args.plan.now os (Some c.in-Some.refusal)) c.as_slice.ensures.value (subst (FirstRefusal c.args.plan.now c.as_slice.result.now) c.in-Some.is c.first_refusal.ensures))
    (ap g.F.Fates.asked c.unbegun.ensures.told.0) (ap g.C.Clock.answers c.unbegun.ensures.told.1))

pub with_nodes-requires-clause-sound : goal.with_nodes-requires-clause-sound
with_nodes-requires-clause-sound g c κs within =
    sound-of g.M.Medium c.requires.opened.0 c.args.openings.items c.requires.opened.1
    (subst (All IsOpen) c.as_slice-in-Ok.ensures.value (c.are_open.ensures.open c.if-are_open.true))

pub without_nodes-requires-clause-shut : goal.without_nodes-requires-clause-shut
without_nodes-requires-clause-shut g c =
    let h = c.are_open.ensures.shut c.if-are_open.false in
    (h.0, h.1, subst (λ os. slice_get os h.0 ≡ Some h.1) c.as_slice-in-Ok.ensures.value h.2, h.3)

pub returns-in-Err : goal.returns-in-Err
returns-in-Err g c = λ first opened.
    let w = g.M.Medium in
    let u = c.unbegun-in-Err in
    let told = tellers (g.F.Fates.asked c.args.fates) (g.F.Fates.asked u.result.fates) (g.C.Clock.answers c.args.clock) (g.C.Clock.answers u.result.clock) in
    subst (λ e. EndsTo w (IsOver c.args.course c.args.plan.now) c.args.plan.now told first u.result.media e) (sym u.ensures.end)
    (subst (λ left. EndsTo w (IsOver c.args.course c.args.plan.now) c.args.plan.now told first left end.NoMemory) (sym u.ensures.media)
    (ends-wanting w (IsOver c.args.course c.args.plan.now) c.args.plan.now told first c.args.openings.items opened))

pub returns-then-are_open : goal.returns-then-are_open
returns-then-are_open g c = λ first opened.
    let w = g.M.Medium in
    let r = c.with_nodes.result in
    let o = (base_of c.in-Ok.begun.wire.lock).origin in
    let os = c.args.openings.items in
    let set = subst (λ l. IsSetUp c.args.plan.now l (g.F.Fates.asked c.args.fates) (g.C.Clock.answers c.args.clock) o) c.as_slice-2.ensures.value c.in-Ok.ensures.set_up in
    ends-set-up w (IsOver c.args.course c.args.plan.now) c.args.plan.now os (g.F.Fates.asked c.args.fates) (g.F.Fates.asked r.fates) (g.C.Clock.answers c.args.clock) (g.C.Clock.answers r.clock) o first r.media r.end set
    (c.with_nodes.ensures first opened)

pub returns-else-are_open : goal.returns-else-are_open
returns-else-are_open g c = λ first opened.
    let w = g.M.Medium in
    let r = c.without_nodes.result in
    let o = (base_of c.in-Ok.begun.wire.lock).origin in
    let os = c.args.openings.items in
    let set = subst (λ l. IsSetUp c.args.plan.now l (g.F.Fates.asked c.args.fates) (g.C.Clock.answers c.args.clock) o) c.as_slice-2.ensures.value c.in-Ok.ensures.set_up in
    ends-set-up w (IsOver c.args.course c.args.plan.now) c.args.plan.now os (g.F.Fates.asked c.args.fates) (g.F.Fates.asked r.fates) (g.C.Clock.answers c.args.clock) (g.C.Clock.answers r.clock) o first r.media r.end set
    (ends-weaker w (IsUnopened c.args.plan.now) (IsOver c.args.course c.args.plan.now) c.args.plan.now (λ t un. inr un)
    (tellers o.asked (g.F.Fates.asked r.fates) o.answers (g.C.Clock.answers r.clock)) first r.media r.end (c.without_nodes.ensures first opened))

pub with_nodes-requires-clause-runnable : goal.with_nodes-requires-clause-runnable
with_nodes-requires-clause-runnable g c κs within = record { of_language = c.requires.plan; all = c.requires.count; ready = search rules }

pub with_nodes-requires-clause-begun : goal.with_nodes-requires-clause-begun
with_nodes-requires-clause-begun g c κs within =
    let b = c.in-Ok.begun in
    let set = subst (λ l. IsSetUp c.args.plan.now l (g.F.Fates.asked c.args.fates) (g.C.Clock.answers c.args.clock) (base_of b.wire.lock).origin) c.as_slice-2.ensures.value c.in-Ok.ensures.set_up in
    has-begun c.args.plan.now c.args.openings.items b.wire.lock (g.F.Fates.asked c.args.fates) (g.C.Clock.answers c.args.clock) b.start b.passes.items b.conductor set c.in-Ok.ensures.has

pub without_nodes-requires-clause-runnable : goal.without_nodes-requires-clause-runnable
without_nodes-requires-clause-runnable g c = record { of_language = c.requires.plan; all = c.requires.count; ready = search rules }

pub without_nodes-requires-clause-begun : goal.without_nodes-requires-clause-begun
without_nodes-requires-clause-begun g c =
    let b = c.in-Ok.begun in
    let set = subst (λ l. IsSetUp c.args.plan.now l (g.F.Fates.asked c.args.fates) (g.C.Clock.answers c.args.clock) (base_of b.wire.lock).origin) c.as_slice-2.ensures.value c.in-Ok.ensures.set_up in
    has-begun c.args.plan.now c.args.openings.items b.wire.lock (g.F.Fates.asked c.args.fates) (g.C.Clock.answers c.args.clock) b.start b.passes.items b.conductor set c.in-Ok.ensures.has
