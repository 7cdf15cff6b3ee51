use Rattle.broker_core.proofs.AdvanceLemmas.{led-after, advance-gives, may-begin, restored}
use Rattle.broker_core.proofs.RangeLemmas.{ranged-after, turn-InRange}
use Rattle.broker_core.proofs.brokers.Broker.advance.Goals as goal

pub yielded-requires : goal.yielded-requires
yielded-requires c = may-begin c.self.inside.ledger c.self.inside.heard c.self.inside.phase c.self.inside.log c.args.self.now c.args.first c.self.view_is c.self.invariant c.requires.fits c.requires.in_range

pub invariant_of-self : goal.invariant_of-self
invariant_of-self c = record {
  phase_is = c.in-Ok.ensures.phase;
  ranged = ranged-after c.self.inside.ledger c.yielded.new.ledger c.args.heard c.args.first c.self.invariant.ranged c.requires.in_range c.in-Ok.ensures.ledger;
  led = led-after c.self.inside.ledger c.yielded.new.ledger c.self.inside.heard c.args.heard c.self.inside.phase c.in-Ok.field-0.phase c.self.inside.log c.yielded.new.log c.args.self.now c.args.first
      c.in-Ok.field-0.effects.items c.in-Ok.field-0.outs.items c.self.view_is c.self.invariant c.requires.fits c.in-Ok.ensures.ledger c.in-Ok.ensures.effects c.in-Ok.ensures.phase c.in-Ok.ensures.outs c.yielded.ensures.acts c.in-Ok.ensures.logged;
}

pub restore-requires : goal.restore-requires
restore-requires c =
    restored _ c.self.inside.ledger.acts c.notes-before.result c.self.inside.ledger.notes c.self.inside.ledger.answers c.yielded.new.ledger.answers c.notes-before.ensures.notes c.notes-before.ensures.are_notes c.yielded.ensures.acts c.yielded.ensures.kept

pub returns-in-Ok-clause-gives : goal.returns-in-Ok-clause-gives
returns-in-Ok-clause-gives c =
    advance-gives c.self.inside.ledger c.yielded.new.ledger c.self.inside.heard c.args.heard c.self.inside.phase c.in-Ok.field-0.phase c.self.inside.log c.yielded.new.log c.args.self.now c.args.first
    c.in-Ok.field-0.effects.items c.in-Ok.field-0.outs.items c.self.view_is c.self.invariant c.requires.fits c.in-Ok.ensures.ledger c.in-Ok.ensures.effects c.in-Ok.ensures.phase c.in-Ok.ensures.outs c.yielded.ensures.acts c.in-Ok.ensures.logged
    c.of.result c.of.ensures.0 c.of.ensures.1 c.yielded.ensures.number c.yielded.ensures.run

pub returns-in-Ok-clause-in_range : goal.returns-in-Ok-clause-in_range
returns-in-Ok-clause-in_range c =
    turn-InRange c.self.inside.ledger c.yielded.new.ledger c.args.heard c.args.first c.in-Ok.field-0.phase c.in-Ok.field-0.effects.items c.in-Ok.field-0.outs.items c.of.result c.self.invariant.ranged c.requires.in_range
    c.in-Ok.ensures.ledger c.in-Ok.ensures.effects c.in-Ok.ensures.phase c.in-Ok.ensures.outs c.in-Ok.ensures.are_notes.few c.of.ensures.0 c.of.ensures.1
