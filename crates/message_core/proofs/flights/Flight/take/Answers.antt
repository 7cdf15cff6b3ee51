use Rattle.message_core.proofs.Names.{◌≡◌, ◌≤◌, [], length, sym, ap, ◌∙◌, subst, unwrap_or, IsFront, waiting, taken, FlightParts, state_of, queue_in, IsSound}
use Rattle.message_core.proofs.StateLemmas.{now, none_fields, taken_fields}
use Rattle.message_core.proofs.SoundLemmas.{sound_taken}
use Rattle.message_core.proofs.TakeLemmas.{no_front, waiting_is, took_went, within, is_front}
use Rattle.message_core.proofs.flights.Flight.take.Goals as goal

pub returns-in_default-clause-arrived : goal.returns-in_default-clause-arrived
returns-in_default-clause-arrived c =
    let i = c.self.inside in
    sym (ap (λ p. waiting (state_of p) c.args.node) c.self.view_is) ∙ waiting_is i.letters.items i.ticks i.queues.entries i.held.entries c.args.node ∙ no_front (unwrap_or (queue_in i.queues.entries c.args.node) []) c.in_default.ensures

pub returns-in_default-clause-taken : goal.returns-in_default-clause-taken
returns-in_default-clause-taken c =
    let i = c.self.inside in
    subst (λ (p : FlightParts). state_of p ≡ taken (state_of p) c.args.node) c.self.view_is
    (none_fields i.letters.items i.ticks i.queues.entries i.held.entries c.args.node (no_front (unwrap_or (queue_in i.queues.entries c.args.node) []) c.in_default.ensures))

pub arrival_of-requires-clause-from_one : goal.arrival_of-requires-clause-from_one
arrival_of-requires-clause-from_one c =
    let i = c.self.inside in
    (took_went i.letters.items i.ticks i.queues.entries i.held.entries c.args.node c.in-Some.number c.self.invariant c.in-Some.ensures).from_one

pub arrival_of-requires-clause-there : goal.arrival_of-requires-clause-there
arrival_of-requires-clause-there c =
    let i = c.self.inside in
    subst (λ ls. c.in-Some.number ≤ length ls) (sym c.deref.ensures.value)
    (within i.letters.items c.args.node c.in-Some.number (took_went i.letters.items i.ticks i.queues.entries i.held.entries c.args.node c.in-Some.number c.self.invariant c.in-Some.ensures))

pub invariant_of-self : goal.invariant_of-self
invariant_of-self c =
    let i = c.self.inside in
    subst IsSound (sym (taken_fields i.letters.items i.ticks i.queues.entries i.held.entries c.args.node c.drop_front.new.queues.entries c.drop_front.ensures)) (sound_taken (now i.letters.items i.ticks i.queues.entries i.held.entries) c.self.invariant c.args.node)

pub returns-clause-arrived : goal.returns-clause-arrived
returns-clause-arrived c =
    let i = c.self.inside in
    subst (λ (p : FlightParts). IsFront (state_of p) c.args.node c.in_ok-arrival.arrival) c.self.view_is
    (is_front i.letters.items i.ticks i.queues.entries i.held.entries c.args.node c.in-Some.number c.in_ok-arrival.arrival c.deref.result.now c.self.invariant c.in-Some.ensures c.deref.ensures.value
    c.in_ok-arrival.ensures.number c.in_ok-arrival.ensures.letter c.in_ok-arrival.ensures.in_range)

pub returns-clause-taken : goal.returns-clause-taken
returns-clause-taken c =
    let i = c.self.inside in
    taken_fields i.letters.items i.ticks i.queues.entries i.held.entries c.args.node c.drop_front.new.queues.entries c.drop_front.ensures ∙ ap (λ p. taken (state_of p) c.args.node) c.self.view_is
