use Rattle.broker_core.proofs.Names.{◌++◌, reverse, sym, ap, ◌∙◌, arith, phase_in}
use Rattle.broker_core.proofs.OpenLemmas.{fresh-is, opened, opened-led, refused}
use Rattle.broker_core.proofs.RangeLemmas.{ranged-opened}
use Rattle.broker_core.proofs.brokers.Broker.open_with.Goals as goal

pub invariant_of-result : goal.invariant_of-result
invariant_of-result c = record {
  phase_is = c.in_ok-phase.ensures.phase ∙ ap (λ l. phase_in l c.nothing-heard.result) (sym c.phase_now.ensures.same);
  ranged = ranged-opened c.args.number c.args.run c.args.acts.items c.args.effects.now c.new-ledger.result c.take_up_all.new.ledger c.phase_now.new.ledger
      c.requires.acts c.requires.low c.requires.high c.requires.run (omega (arith, c.ranges.run.fits)) c.requires.log c.new-ledger.ensures c.in_ok-other.ensures.led c.phase_now.ensures.same c.resume_fault.ensures.are_notes;
  led = λ script. opened-led script c.args.number c.args.run c.args.acts.items c.new-ledger.result c.take_up_all.new.ledger c.phase_now.new.ledger c.nothing-heard.result _ c.args.effects.now c.in_ok-other.other c.resume_fault.result
      c.new-ledger.ensures c.in_ok-other.ensures.led c.in_ok-other.ensures.other c.phase_now.ensures.same c.resume_fault.ensures.fault c.in_default.is (c.in_ok-add.ensures.ok ∙ ap (λ l. l ++ c.args.effects.now) c.new-log.ensures);
}

pub returns-in-Some-clause-opens : goal.returns-in-Some-clause-opens
returns-in-Some-clause-opens c = λ script.
    refused script c.args.number c.args.run c.args.acts.items c.new-ledger.result c.take_up_all.new.ledger c.args.effects.now c.in_ok-other.other c.resume_fault.result c.in-Some.fault
    c.new-ledger.ensures c.in_ok-other.ensures.led c.in_ok-other.ensures.other c.resume_fault.ensures.fault c.in-Some.is

pub returns-clause-opens : goal.returns-clause-opens
returns-clause-opens c = λ script.
    opened script c.args.number c.args.run c.args.acts.items c.new-ledger.result c.take_up_all.new.ledger c.args.effects.now c.in_ok-other.other c.resume_fault.result
    c.new-ledger.ensures c.in_ok-other.ensures.led c.in_ok-other.ensures.other c.resume_fault.ensures.fault c.in_default.is

pub returns-clause-fresh : goal.returns-clause-fresh
returns-clause-fresh c =
    fresh-is c.args.number c.args.run c.args.acts.items c.new-ledger.result c.take_up_all.new.ledger c.phase_now.new.ledger c.nothing-heard.result (reverse c.args.effects.now) _ c.args.effects.now
    c.new-ledger.ensures c.in_ok-other.ensures.led c.phase_now.ensures.same c.nothing-heard.ensures (c.in_ok-add.ensures.ok ∙ ap (λ l. l ++ c.args.effects.now) c.new-log.ensures)
