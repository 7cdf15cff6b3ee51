use Rattle.std.proofs.Common.{◌≡◌, ◌++◌}
use Rattle.std.specs.List.{flat_map}
use Rattle.pseudo_time.specs.Nodes.{repository}
use Rattle.pseudo_time.specs.declared.nodes.NodeId.{NodeId}
use Rattle.trace_report.specs.Reports.{logs_by, nodes_to}
use Rattle.settle_report.specs.Texts.{repository_line}
use Rattle.settle_report.specs.Versions.{open_in}
use Rattle.settle_report.proofs.texts.push_repositories.Given as goal

abbrev pub invariant-loop-below : goal.invariant-loop-below
invariant-loop-below l =
    (l.out.items ≡ l.initial.out.items ++ flat_map (repository_line (logs_by l.before) (logs_by l.after)) (nodes_to repository l.below))
    × (l.undecided.items ≡ l.initial.undecided.items ++ flat_map (λ (n : NodeId). open_in (logs_by l.after n)) (nodes_to repository l.below))
