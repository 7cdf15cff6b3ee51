use Rattle.broker_core.proofs.Names.{sym, ◌∙◌, arith, kept}
use Rattle.broker_core.proofs.AddLemmas.{owed-may}
use Rattle.broker_core.proofs.SettleLemmas.{on-the-way, at-rest, at-last}
use Rattle.broker_core.proofs.owed.settle.Goals as goal

pub change-requires : goal.change-requires
change-requires c =
    owed-may c.phase_now.new.ledger.acts c.phase_now.new.ledger.notes (kept c.phase_now.new.ledger.notes c.phase_now.new.ledger.answers) c.phase_now.new.ledger.number c.phase_now.new.ledger.run c.args.heard.now c.in_ok-phase.phase c.in-Some.effect
    (sym c.in_ok-effect.ensures ∙ c.in-Some.is)

pub loop-step-preserved : goal.loop-step-preserved
loop-step-preserved c =
    on-the-way c.args.ledger.now c.loop-step.ledger c.phase_now.new.ledger c.change.new.self c.args.heard.now _ c.loop-step.step c.args.effects.now.items c.loop-step.effects.items c.push.new.self.items c.in-Some.effect c.in_ok-phase.phase
    c.loop-step-test.true c.loop-step.invariant c.phase_now.ensures.same c.in_ok-phase.ensures.phase (sym c.in_ok-effect.ensures ∙ c.in-Some.is) c.change.ensures c.in_ok-push.ensures.items

pub returns-in_default-clause-settled : goal.returns-in_default-clause-settled
returns-in_default-clause-settled c =
    at-rest c.args.ledger.now c.loop-step.ledger c.phase_now.new.ledger c.args.heard.now _ c.act_count.result c.args.effects.now.items c.loop-step.effects.items c.in_ok-phase.phase
    c.loop-step.invariant c.phase_now.ensures.same c.in_ok-phase.ensures.phase (sym c.in_ok-effect.ensures ∙ c.in_default.is) c.act_count.ensures.count

pub returns-clause-settled : goal.returns-clause-settled
returns-clause-settled c =
    at-last c.args.ledger.now c.loop-step.ledger c.phase_now-2.new.ledger c.args.heard.now _ c.act_count.result c.args.effects.now.items c.loop-step.effects.items
    c.loop-step.invariant c.phase_now-2.ensures.same (omega arith) c.act_count.ensures.count
