use Rattle.message_core.proofs.Names.{rules, drop, sym, ◌∙◌, Some}
use Rattle.message_core.proofs.NodeLemmas.{found_same}
use Rattle.message_core.proofs.QueueLemmas.{puts_of, queue_changed}
use Rattle.message_core.proofs.queues.drop_front.Goals as goal

pub returns-in-Some : goal.returns-in-Some
returns-in-Some c =
    let w = c.pop_front.new.self in
    let es = c.args.queues.now.entries in
    let fs = (c.get_mut.follows.lender w).entries in
    queue_changed (drop 1) es fs c.args.node c.in-Some.queue.now w (puts_of c.args.node (Some w) es fs ((c.get_mut.follows.holds w).3 (search rules)).0) (sym (found_same es c.args.node) ∙ sym c.in-Some.ensures.value) c.pop_front.ensures.rest
