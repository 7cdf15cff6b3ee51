use Rattle.std.proofs.Common.{refl}
use Rattle.broker_core.proofs.RangeLemmas.{heard-InRange}
use Rattle.broker_core.proofs.TakeLemmas.{ignored-viewed, hears-viewed, adds-viewed, fits-viewed}
use Rattle.broker_core.proofs.brokers.Broker.take.Goals as goal

pub returns-in-Ignored-clause-gives : goal.returns-in-Ignored-clause-gives
returns-in-Ignored-clause-gives c =
    ignored-viewed c.self.inside.ledger c.reply_to.new.ledger c.self.inside.heard c.self.inside.phase c.self.inside.log c.args.message.now c.args.self.now _ c.self.view_is refl c.reply_to.ensures.same c.self.invariant
    c.in_ok-reply_to.field-0 c.in_ok-reply_to.ensures.reply c.args.from c.quiet.result c.in-Ignored.is c.quiet.ensures.0 c.quiet.ensures.1

pub returns-in_ok-turn-in-Hears-clause-gives : goal.returns-in_ok-turn-in-Hears-clause-gives
returns-in_ok-turn-in-Hears-clause-gives c =
    hears-viewed c.self.inside.ledger c.reply_to.new.ledger c.self.inside.heard c.self.inside.phase c.self.inside.log c.args.message.now c.args.self.now _ c.self.view_is refl c.reply_to.ensures.same c.self.invariant
    c.in_ok-reply_to.field-0 c.in_ok-reply_to.ensures.reply c.args.from c.in-Hears.heard c.in_ok-turn-in-Hears.turn c.advance.new.self c.in-Hears.is c.in_ok-turn-in-Hears.ensures.gives

pub returns-in_ok-turn-in-Adds-clause-gives : goal.returns-in_ok-turn-in-Adds-clause-gives
returns-in_ok-turn-in-Adds-clause-gives c =
    adds-viewed c.self.inside.ledger c.reply_to.new.ledger c.self.inside.heard c.self.inside.phase c.self.inside.log c.args.message.now c.args.self.now _ c.self.view_is refl c.reply_to.ensures.same c.self.invariant
    c.in_ok-reply_to.field-0 c.in_ok-reply_to.ensures.reply c.args.from c.in-Adds.effect c.in_ok-turn-in-Adds.turn c.advance-in-Adds.new.self c.in-Adds.is c.in_ok-turn-in-Adds.ensures.gives

pub advance-requires-in-Adds-clause-fits : goal.advance-requires-in-Adds-clause-fits
advance-requires-in-Adds-clause-fits c =
    fits-viewed c.self.inside.ledger c.reply_to.new.ledger c.self.inside.heard c.self.inside.phase c.self.inside.log c.args.message.now c.args.self.now _ c.self.view_is refl c.reply_to.ensures.same c.self.invariant
    c.in_ok-reply_to.field-0 c.in_ok-reply_to.ensures.reply c.in-Adds.effect c.in-Adds.is

pub advance-requires-in-Adds-clause-in_range : goal.advance-requires-in-Adds-clause-in_range
advance-requires-in-Adds-clause-in_range c =
    heard-InRange c.self.inside.ledger c.self.inside.heard c.self.inside.phase c.args.message.now c.in_ok-reply_to.field-0 c.in-Adds.effect c.self.invariant.ranged c.requires.message c.self.invariant.phase_is c.in_ok-reply_to.ensures.reply c.in-Adds.is
