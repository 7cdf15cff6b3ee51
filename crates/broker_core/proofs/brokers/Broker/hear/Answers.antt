use Rattle.broker_core.proofs.Names.{AreEffects, AreOuts, listed, sym, ap, subst, ◌∙◌}
use Rattle.broker_core.proofs.RangeLemmas.{outs-InRange}
use Rattle.broker_core.proofs.DoneLemmas.{hear-gives}
use Rattle.broker_core.proofs.brokers.Broker.hear.Goals as goal

pub returns-clause-gives : goal.returns-clause-gives
returns-clause-gives c = λ script.
    hear-gives script c.self.inside.ledger c.self.inside.heard c.self.inside.phase c.self.inside.log c.args.self.now c.args.moment c.in_ok-out.out c.of.result
    c.self.view_is c.self.invariant c.in_ok-out.ensures.standing (c.of.ensures.0 ∙ c.new.ensures.items) (c.of.ensures.1 ∙ c.in_ok-outs.ensures)

pub returns-clause-in_range : goal.returns-clause-in_range
returns-clause-in_range c = (
  subst AreEffects (sym (c.of.ensures.0 ∙ c.new.ensures.items)) tt,
  subst AreOuts (sym c.of.ensures.1)
      (outs-InRange c.self.inside.ledger c.self.inside.heard c.self.inside.phase c.in_ok-outs.outs.items c.self.invariant.ranged c.in_ok-out.ensures.are_notes.few c.self.invariant.phase_is
      (c.in_ok-outs.ensures ∙ ap listed c.in_ok-out.ensures.standing)),
)
