-- The nodes that went down, as the code gathers them.
use Rattle.std.specs.Prelude.{ℕ, List, [], ◌∷◌, Option, Some, None, if◌then◌else◌}
use Rattle.std.specs.List.{flat_map}
use Rattle.pseudo_time.specs.declared.nodes.NodeId.{NodeId}
use Rattle.pseudo_time.specs.declared.nodes.NodeKind.{NodeKind}
use Rattle.pseudo_time.specs.declared.down_causes.DownCause.{DownCause}
use Rattle.pseudo_time.specs.Nodes.{same_node}
use Rattle.world_core.specs.declared.entries.Entry.{Entry}
use Rattle.world_core.specs.declared.entries.Entry.TheVariants.{Take, Go, Learn, Hear, Gate, Crash, Down, Tick}
use Rattle.report_writer.specs.declared.records.Down.{Down as Fallen}
use Rattle.trace_report.specs.Reports.{down_shown, nodes_to}

-- what an entry says of nodes that are down
abbrev pub fell : Entry → List Fallen
fell (Take node number) = []
fell (Go node) = []
fell (Learn node stamp committed) = []
fell (Hear node) = []
fell (Gate node) = []
fell (Crash node kept) = []
fell (Down node cause) = record { node = node; cause = cause } ∷ []
fell (Tick moment) = []

-- in the order of their Downs
abbrev pub fallen : List Entry → List Fallen
fallen es = flat_map fell es

-- the first of the node
abbrev pub cause_of : List Fallen → NodeId → Option DownCause
cause_of [] n = None
cause_of (d ∷ ds) n = if same_node d.node n then Some d.cause else cause_of ds n

abbrev pub shown : List Fallen → NodeId → List Fallen
shown ds n = down_shown n (cause_of ds n)

abbrev pub nodes_of_kind : NodeKind → ℕ → List NodeId
nodes_of_kind kind most = nodes_to (λ n. record { kind = kind; number = n }) most
