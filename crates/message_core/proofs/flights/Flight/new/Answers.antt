use Rattle.message_core.proofs.Names.{refl, sym, ap, subst, start, held_in, IsSound}
use Rattle.message_core.proofs.StateLemmas.{holds_state}
use Rattle.message_core.proofs.SoundLemmas.{sound_start}
use Rattle.message_core.proofs.flights.Flight.new.Goals as goal

pub returns : goal.returns
returns c = holds_state c.new.result.items 0 c.in_ok-queues.queues.entries c.new-2.result.entries (start c.args.nodes.now) c.new.ensures.items refl c.in_ok-queues.ensures (λ d. ap (λ es. held_in es d) c.new-2.ensures.empty)

pub invariant_of-result : goal.invariant_of-result
invariant_of-result c = subst IsSound (sym (holds_state c.new.result.items 0 c.in_ok-queues.queues.entries c.new-2.result.entries (start c.args.nodes.now) c.new.ensures.items refl c.in_ok-queues.ensures (λ d. ap (λ es. held_in es d) c.new-2.ensures.empty))) (sound_start c.args.nodes.now)
