use Rattle.message_core.proofs.Names.{rules, refl, sym, ap, ◌∙◌, subst, passed, state_of, IsSound}
use Rattle.message_core.proofs.QueueLemmas.{err_so}
use Rattle.message_core.proofs.StateLemmas.{now, same_fields, passed_fields}
use Rattle.message_core.proofs.SoundLemmas.{sound_passed}
use Rattle.message_core.proofs.flights.Flight.pass.Goals as goal

pub invariant_of-self : goal.invariant_of-self
invariant_of-self c =
    let i = c.self.inside in
    subst IsSound (sym (same_fields i.letters.items i.ticks i.queues.entries i.held.entries c.arrive.new.queues.entries i.held.entries c.in_err-arrive.ensures.err (λ d. refl))) c.self.invariant

pub returns-in_err-arrive-clause-err : goal.returns-in_err-arrive-clause-err
returns-in_err-arrive-clause-err c =
    let i = c.self.inside in
    err_so c.from_residual.result (same_fields i.letters.items i.ticks i.queues.entries i.held.entries c.arrive.new.queues.entries i.held.entries c.in_err-arrive.ensures.err (λ d. refl) ∙ ap state_of c.self.view_is)

pub invariant_of-self-2 : goal.invariant_of-self-2
invariant_of-self-2 c =
    let i = c.self.inside in
    subst IsSound (sym (passed_fields i.letters.items i.ticks i.queues.entries i.held.entries c.in-Some.tick c.arrive.new.queues.entries c.release.new.held.entries (search rules) c.in_ok-arrive.ensures.ok c.release.ensures))
    (sound_passed (now i.letters.items i.ticks i.queues.entries i.held.entries) c.self.invariant)

pub returns-clause-ok : goal.returns-clause-ok
returns-clause-ok c =
    let i = c.self.inside in
    passed_fields i.letters.items i.ticks i.queues.entries i.held.entries c.in-Some.tick c.arrive.new.queues.entries c.release.new.held.entries (search rules) c.in_ok-arrive.ensures.ok c.release.ensures ∙ ap (λ p. passed (state_of p)) c.self.view_is
