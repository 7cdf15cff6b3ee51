-- Which nodes take part in a run, and which of them couldn't be opened, as tests of its trace.
use Rattle.std.specs.Prelude.{Bool, false, List, ◌&&◌, is_some}
use Rattle.std.specs.List.{list_all, list_any}
use Rattle.pseudo_time.specs.Nodes.{same_node}
use Rattle.pseudo_time.specs.declared.nodes.NodeId.{NodeId}
use Rattle.world_core.specs.declared.entries.Entry.{Entry}
use Rattle.world_core.specs.declared.entries.Entry.TheVariants.{Take, Go, Learn, Hear, Gate, Crash, Down, Tick}
use Rattle.world_core.specs.declared.traces.Opened.{Opened}
use Rattle.world_core.specs.Walks.{is_down, opened_log}

-- the entry is the node's Down
abbrev pub falls : NodeId → Entry → Bool
falls n (Take node number) = false
falls n (Go node) = false
falls n (Learn node stamp committed) = false
falls n (Hear node) = false
falls n (Gate node) = false
falls n (Crash node kept) = false
falls n (Down node cause) = same_node node n
falls n (Tick moment) = false

-- nothing but Downs happened, and one is the node's
abbrev pub tells_unopened : NodeId → List Entry → Bool
tells_unopened n es = list_all is_down es && list_any (falls n) es

-- the node is one of the run
abbrev pub takes_part : List Opened → NodeId → Bool
takes_part opened n = is_some (opened_log opened n)
