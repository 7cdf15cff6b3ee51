use Rattle.message_core.proofs.Names.{rules, ◌-◌, length, take, sym, ◌∙◌, Some, queue_in}
use Rattle.message_core.proofs.NodeLemmas.{found_same}
use Rattle.message_core.proofs.QueueLemmas.{puts_of, queue_changed, last_undone}
use Rattle.message_core.proofs.queues.take_back.Goals as goal

pub returns-in-Some : goal.returns-in-Some
returns-in-Some c = λ before earlier grew.
    let w = c.drop_last.new.queue in
    let es = c.args.queues.now.entries in
    let fs = (c.get_mut.follows.lender w).entries in
    last_undone c.args.copy earlier before (queue_in es) (queue_in fs) grew (queue_changed (λ queue. take (length queue - 1) queue) es fs c.args.copy.to c.in-Some.queue.now w (puts_of c.args.copy.to (Some w) es fs ((c.get_mut.follows.holds w).3 (search rules)).0) (sym (found_same es c.args.copy.to) ∙ sym c.in-Some.ensures.value) c.drop_last.ensures)
