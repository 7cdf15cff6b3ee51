use Rattle.seat_lock.specs.Words.{base_of}
use Rattle.run_rounds.proofs.Names.{IsWirePass, node_at, Along, HasFallen, IsUnseen, tellers, ◌∙◌, length, take, vec_len, sym, subst, ap, arith, all-pushed}
use Rattle.run_rounds.specs.Ends.{IsUnopened}
use Rattle.run_rounds.specs.Finishes.{EndsTo}
use Rattle.run_rounds.proofs.PlaceLemmas.{seats-count, pass-count, unseen-along}
use Rattle.run_rounds.proofs.UnopenedLemmas.{ends-unopened}
use Rattle.run_rounds.proofs.runs.without_nodes.Goals as goal

pub down_visits-passes-requires-clause-count : goal.down_visits-passes-requires-clause-count
down_visits-passes-requires-clause-count g c =
    let n = seats-count c.args.plan.now c.args.openings.items _ _ (base_of c.args.begun.wire.lock) c.requires.begun.set_up c.args.begun.passes.items c.requires.begun.has.unseen in
    let e = ap length c.as_slice.ensures.value in
    (e ∙ c.requires.runnable.all, omega (arith, n, e, c.args.begun.passes.ok))

pub down_visits-passes-requires-clause-passes : goal.down_visits-passes-requires-clause-passes
down_visits-passes-requires-clause-passes g c = c.requires.begun.has.passes_fit

pub down_visits-passes-requires-clause-unseen : goal.down_visits-passes-requires-clause-unseen
down_visits-passes-requires-clause-unseen g c =
    let w = base_of c.args.begun.wire.lock in
    let n = seats-count c.args.plan.now c.args.openings.items _ _ w c.requires.begun.set_up c.args.begun.passes.items c.requires.begun.has.unseen in
    subst (λ os. Along (λ i o pass. IsUnseen w (node_at c.args.plan.now i) o pass) 0 (take (vec_len c.args.begun.passes) os) c.args.begun.passes.items) (sym c.as_slice.ensures.value)
    (unseen-along c.args.plan.now c.args.openings.items _ _ w c.requires.begun.set_up c.args.begun.passes.items c.requires.begun.has.unseen (vec_len c.args.begun.passes) (omega (arith, n, c.args.begun.passes.ok)))

pub closed_run-requires-clause-passes : goal.closed_run-requires-clause-passes
closed_run-requires-clause-passes g c =
    all-pushed (IsWirePass c.args.begun.wire.lock) c.push_reserved.new.self.items c.down_visits-passes.result.0.items c.args.begun.conductor c.push_reserved.ensures.items c.down_visits-passes.ensures.passes c.requires.begun.has.conducts

pub closed_run-requires-clause-all : goal.closed_run-requires-clause-all
closed_run-requires-clause-all g c =
    let n = pass-count (base_of c.args.begun.wire.lock) (base_of c.args.begun.wire.lock).origin.opened c.args.begun.passes.items c.requires.begun.has.unseen in
    omega (arith, n, c.push_reserved.ensures.len, c.down_visits-passes.ensures.count.0, c.args.begun.passes.ok)

pub returns : goal.returns
returns g c first opened =
    let w = g.M.Medium in
    let wire = base_of c.args.begun.wire.lock in
    let n = seats-count c.args.plan.now c.args.openings.items _ _ wire c.requires.begun.set_up c.args.begun.passes.items c.requires.begun.has.unseen in
    subst (λ left. EndsTo w (IsUnopened c.args.plan.now) c.args.plan.now (tellers wire.origin.asked (g.F.Fates.asked c.closed_run.result.fates) wire.origin.answers (g.C.Clock.answers c.closed_run.result.clock)) first left c.closed_run.result.end)
    (sym (c.closed_run.ensures.media ∙ c.give_back.ensures.back))
    (ends-unopened w c.args.plan.now wire first c.args.openings.items c.down_visits-passes.result.0.items c.push_reserved.new.self.items c.args.begun.conductor c.down_visits-passes.result.1 (g.F.Fates.asked c.closed_run.result.fates) (g.C.Clock.answers c.closed_run.result.clock)
    c.requires.begun.set_up c.requires.runnable.of_language c.requires.runnable.all c.requires.runnable.ready opened c.push_reserved.ensures.items c.requires.begun.has.conductor_unseen c.down_visits-passes.ensures.reason (vec_len c.args.begun.passes) (omega (arith, n, c.args.begun.passes.ok))
    (λ e. subst (λ os. Along (λ i o pass. HasFallen wire (node_at c.args.plan.now i) o pass) 0 (take (vec_len c.args.begun.passes) os) c.down_visits-passes.result.0.items) c.as_slice.ensures.value (c.down_visits-passes.ensures.fallen e))
    c.requires.shut g.met.M.Medium.only_now c.closed_run.result.end c.closed_run.ensures.closed)
