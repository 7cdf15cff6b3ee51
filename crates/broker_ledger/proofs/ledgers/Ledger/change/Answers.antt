use Rattle.broker_ledger.proofs.Names.{Notes, AreNotes, sym, subst}
use Rattle.broker_ledger.proofs.CountLemmas.{try-are, may-above}
use Rattle.broker_ledger.proofs.ledgers.Ledger.change.Goals as goal

pub invariant_of-self-in-Try : goal.invariant_of-self-in-Try
invariant_of-self-in-Try c = record {
  number_low = c.self.invariant.number_low;
  number_high = c.self.invariant.number_high;
  are_acts = c.self.invariant.are_acts;
  are_notes = subst (λ (n : Notes). AreNotes c.self.inside.acts.items n c.self.inside.answers.items) (sym c.begin_try.ensures.begun)
      (try-are c.self.inside.acts.items c.self.inside.notes c.self.inside.answers.items c.in-Try.stamp c.self.invariant.are_notes
      (may-above c.args.self.now _ c.args.effect.now c.in-Try.index c.in-Try.stamp c.self.view_is c.requires c.in-Try.is) c.begin_try.ensures.clock);
  stepper_fits = tt;
}
