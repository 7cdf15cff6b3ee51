use Rattle.message_core.proofs.Names.{[], ap, ◌∙◌, slice_get, option_map, unwrap_or}
use Rattle.message_core.proofs.NodeLemmas.{found_same}
use Rattle.message_core.proofs.queues.front_of.Goals as goal

pub returns-in-Some : goal.returns-in-Some
returns-in-Some c = c.front_number.ensures ∙ ap (λ o. slice_get (unwrap_or (option_map (λ queue. queue.items) o) []) 0) (c.in-Some.ensures.value ∙ found_same c.args.queues.now.entries c.args.node)
