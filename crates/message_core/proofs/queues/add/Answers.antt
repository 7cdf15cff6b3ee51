use Rattle.message_core.proofs.Names.{rules, ◌++◌, ◌∷◌, [], sym, ◌∙◌, Some, queue_in}
use Rattle.message_core.proofs.NodeLemmas.{found_same}
use Rattle.message_core.proofs.QueueLemmas.{puts_of, queue_changed, queue_kept, one_more, err_so}
use Rattle.message_core.proofs.queues.add.Goals as goal

pub returns-in_err-push_back-clause-err : goal.returns-in_err-push_back-clause-err
returns-in_err-push_back-clause-err c =
    let w = c.push_back.new.self in
    let es = c.args.queues.now.entries in
    let fs = (c.get_mut.follows.lender w).entries in
    err_so c.from_residual.result (queue_kept es fs c.args.copy.to c.in-Some.queue.now w (puts_of c.args.copy.to (Some w) es fs ((c.get_mut.follows.holds w).3 (search rules)).0) (sym (found_same es c.args.copy.to) ∙ sym c.in-Some.ensures.value) c.in_err-push_back.ensures.items)

pub returns-in_ok-push_back-clause-ok : goal.returns-in_ok-push_back-clause-ok
returns-in_ok-push_back-clause-ok c =
    let w = c.push_back.new.self in
    let es = c.args.queues.now.entries in
    let fs = (c.get_mut.follows.lender w).entries in
    one_more c.args.copy (queue_in es) (queue_in fs) (queue_changed (λ queue. queue ++ c.args.copy.number ∷ []) es fs c.args.copy.to c.in-Some.queue.now w (puts_of c.args.copy.to (Some w) es fs ((c.get_mut.follows.holds w).3 (search rules)).0) (sym (found_same es c.args.copy.to) ∙ sym c.in-Some.ensures.value) c.in_ok-push_back.ensures.items)
