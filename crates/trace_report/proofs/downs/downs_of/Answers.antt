use Rattle.trace_report.proofs.Names.{flat_map, Repository, Broker, fallen, shown, nodes_of_kind, ◌++◌, ◌∙◌, ap}
use Rattle.trace_report.proofs.DownLemmas.{downs-are}
use Rattle.trace_report.proofs.downs.downs_of.Goals as goal

pub returns : goal.returns
returns c =
    let plan = c.args.plan.now in
    downs-are plan c.args.trace.now c.in_ok-fallen.fallen.items c.push_nodes.new.shown.items c.push_nodes-2.new.shown.items c.new-shown.result.items
    (c.in_ok-fallen.ensures ∙ ap fallen c.as_slice.ensures) c.new-shown.ensures.items
    (c.in_ok-push_nodes.ensures ∙ ap (λ ds. c.new-shown.result.items ++ flat_map (shown ds) (nodes_of_kind Repository plan.repositories)) c.as_slice-2.ensures.value)
    (c.in_ok-push_nodes-2.ensures ∙ ap (λ ds. c.push_nodes.new.shown.items ++ flat_map (shown ds) (nodes_of_kind Broker plan.brokers)) c.as_slice-3.ensures.value)
