use Rattle.message_core.proofs.Names.{rules, sym, ◌∙◌, Some, puts}
use Rattle.message_core.proofs.NodeLemmas.{found_same}
use Rattle.message_core.proofs.QueueLemmas.{puts_of, queue_changed, queue_kept, on_ok, on_err}
use Rattle.message_core.proofs.queues.put_in.Goals as goal

pub returns-clause-ok : goal.returns-clause-ok
returns-clause-ok c =
    let w = c.put_copies.new.queue in
    let es = c.args.queues.now.entries in
    let fs = (c.get_mut.follows.lender w).entries in
    on_ok c.put_copies.result c.put_copies.ensures.ok (λ items.
    queue_changed (puts c.args.copies c.args.number c.args.overtake) es fs c.args.to c.in-Some.queue.now w (puts_of c.args.to (Some w) es fs ((c.get_mut.follows.holds w).3 (search rules)).0) (sym (found_same es c.args.to) ∙ sym c.in-Some.ensures.value) items)

pub returns-clause-err : goal.returns-clause-err
returns-clause-err c =
    let w = c.put_copies.new.queue in
    let es = c.args.queues.now.entries in
    let fs = (c.get_mut.follows.lender w).entries in
    on_err c.put_copies.result c.put_copies.ensures.err (λ items.
    queue_kept es fs c.args.to c.in-Some.queue.now w (puts_of c.args.to (Some w) es fs ((c.get_mut.follows.holds w).3 (search rules)).0) (sym (found_same es c.args.to) ∙ sym c.in-Some.ensures.value) items)
