use Rattle.message_core.proofs.Names.{◌-◌, ◌++◌, ◌∷◌, [], take, length, refl, sym, ap, ◌∙◌, subst, message_bytes, Letter, next_number, sent, state_of, parts_of, IsSound}
use Rattle.message_core.proofs.QueueLemmas.{all_but_last}
use Rattle.message_core.proofs.StateLemmas.{now, same_fields, sent_fields}
use Rattle.message_core.proofs.SoundLemmas.{sound_sent}
use Rattle.message_core.proofs.flights.Flight.send.Goals as goal

pub invariant_of-self-in-Err : goal.invariant_of-self-in-Err
invariant_of-self-in-Err c =
    let i = c.self.inside in
    let back = c.forget_last.ensures ∙ ap (λ z. take (length z - 1) z) c.in_ok-push.ensures.items ∙ all_but_last i.letters.items c.in_ok-letter_for.field-0 in
    subst IsSound (sym (ap (λ ls. state_of (parts_of ls i.ticks c.place.new.queues.entries c.place.new.held.entries)) back
    ∙ same_fields i.letters.items i.ticks i.queues.entries i.held.entries c.place.new.queues.entries c.place.new.held.entries c.in-Err.ensures.err c.in-Err.ensures.err_held)) c.self.invariant

pub returns-in-Err-clause-err : goal.returns-in-Err-clause-err
returns-in-Err-clause-err c =
    let i = c.self.inside in
    let back = c.forget_last.ensures ∙ ap (λ z. take (length z - 1) z) c.in_ok-push.ensures.items ∙ all_but_last i.letters.items c.in_ok-letter_for.field-0 in
    ap (λ ls. state_of (parts_of ls i.ticks c.place.new.queues.entries c.place.new.held.entries)) back
    ∙ same_fields i.letters.items i.ticks i.queues.entries i.held.entries c.place.new.queues.entries c.place.new.held.entries c.in-Err.ensures.err c.in-Err.ensures.err_held
    ∙ ap state_of c.self.view_is

pub invariant_of-self-in_default : goal.invariant_of-self-in_default
invariant_of-self-in_default c =
    let i = c.self.inside in
    let letter : Letter = record { from = c.args.from; to = c.args.to; text = message_bytes c.args.message.now } in
    let pushed = c.in_ok-push.ensures.items ∙ ap (λ l. i.letters.items ++ l ∷ []) c.in_ok-letter_for.ensures in
    subst IsSound (sym (ap (λ ls. state_of (parts_of ls i.ticks c.place.new.queues.entries c.place.new.held.entries)) pushed
    ∙ sent_fields i.letters.items i.ticks i.queues.entries i.held.entries letter c.args.fate c.in_ok-number.number c.place.new.queues.entries c.place.new.held.entries
    (c.in_ok-number.ensures ∙ sym (ap (λ p. next_number (state_of p)) c.self.view_is)) c.in_default.ensures.queued c.in_default.ensures.waiting))
    (sound_sent (now i.letters.items i.ticks i.queues.entries i.held.entries) c.self.invariant letter c.args.fate (record { message = c.args.message.now; in_range = c.requires; text = refl }))

pub returns-clause-sent : goal.returns-clause-sent
returns-clause-sent c =
    let i = c.self.inside in
    let letter : Letter = record { from = c.args.from; to = c.args.to; text = message_bytes c.args.message.now } in
    let pushed = c.in_ok-push.ensures.items ∙ ap (λ l. i.letters.items ++ l ∷ []) c.in_ok-letter_for.ensures in
    ap (λ ls. state_of (parts_of ls i.ticks c.place.new.queues.entries c.place.new.held.entries)) pushed
    ∙ sent_fields i.letters.items i.ticks i.queues.entries i.held.entries letter c.args.fate c.in_ok-number.number c.place.new.queues.entries c.place.new.held.entries
    (c.in_ok-number.ensures ∙ sym (ap (λ p. next_number (state_of p)) c.self.view_is)) c.in_default.ensures.queued c.in_default.ensures.waiting
    ∙ ap (λ p. sent (state_of p) letter c.args.fate) c.self.view_is
