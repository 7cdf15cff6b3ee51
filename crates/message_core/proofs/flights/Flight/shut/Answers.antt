use Rattle.message_core.proofs.Names.{sym, ap, ◌∙◌, subst, was_shut, state_of, IsSound}
use Rattle.message_core.proofs.StateLemmas.{now, shut_fields}
use Rattle.message_core.proofs.SoundLemmas.{sound_shut}
use Rattle.message_core.proofs.flights.Flight.shut.Goals as goal

pub invariant_of-self : goal.invariant_of-self
invariant_of-self c =
    let i = c.self.inside in
    subst IsSound (sym (shut_fields i.letters.items i.ticks i.queues.entries i.held.entries c.args.node c.close_queue.new.queues.entries c.close_queue.ensures)) (sound_shut (now i.letters.items i.ticks i.queues.entries i.held.entries) c.self.invariant c.args.node)

pub returns : goal.returns
returns c =
    let i = c.self.inside in
    shut_fields i.letters.items i.ticks i.queues.entries i.held.entries c.args.node c.close_queue.new.queues.entries c.close_queue.ensures ∙ ap (λ p. was_shut (state_of p) c.args.node) c.self.view_is
