use Rattle.trace_report.proofs.Names.{◌≡◌, ◌++◌, flat_map}
use Rattle.trace_report.specs.Downs as spec
use Rattle.trace_report.proofs.downs.push_nodes.Given as goal

abbrev pub invariant-loop-below : goal.invariant-loop-below
invariant-loop-below l = l.shown.items ≡ l.initial.shown.items ++ flat_map (spec.shown l.fallen) (spec.nodes_of_kind l.kind l.below)
