-- How nodes stand, as the code keeps it.
use Rattle.std.specs.Prelude.{ℕ, ◌==◌, ◌&&◌, ◌||◌, not, Bool, true, false, List, map, Option, Some, None, is_some, if◌then◌else◌}
use Rattle.std.specs.Option.{option_map}
use Rattle.std.specs.Map.{lookup}
use Rattle.pseudo_time.specs.declared.nodes.NodeId.{NodeId}
use Rattle.pseudo_time.specs.declared.nodes.NodeKind.{NodeKind}
use Rattle.pseudo_time.specs.Nodes.{same_node, is_broker}
use Rattle.world_core.specs.declared.entries.Entry.{Entry}
use Rattle.world_core.specs.declared.entries.Entry.TheVariants.{Take, Go, Learn, Hear, Gate, Crash, Down, Tick}
use Rattle.world_core.specs.declared.traces.Opened.{Opened}
use Rattle.world_core.specs.Walks.{Flags, opened_flags, flagged, names}
use Rattle.wire_core.specs.declared.flags.NodeFlags.{NodeFlags}
use Rattle.wire_core.specs.declared.flags.Standing.{Standing}

-- a node as it is opened
abbrev pub new_flags : NodeFlags
new_flags = record { up = true; gone = false; due = false; heard = 0 }

-- the node's flags in the walk
abbrev pub flags_of : NodeFlags → Flags
flags_of f = record { known = true; up = f.up; gone = f.gone; due = f.due }

abbrev pub with_flags : Flags → ℕ → NodeFlags
with_flags f heard = record { up = f.up; gone = f.gone; due = f.due; heard = heard }

-- how many Ticks there were when it last heard one, after an entry of its own
abbrev pub heard_then : ℕ → ℕ → Entry → ℕ
heard_then ticks heard (Take node number) = heard
heard_then ticks heard (Go node) = heard
heard_then ticks heard (Learn node stamp committed) = heard
heard_then ticks heard (Hear node) = ticks
heard_then ticks heard (Gate node) = heard
heard_then ticks heard (Crash node kept) = 0
heard_then ticks heard (Down node cause) = heard
heard_then ticks heard (Tick moment) = heard

-- a node after an entry of its own, where this is the last Tick's moment and so many Ticks stand
abbrev pub after_own : Option ℕ → ℕ → NodeKind → Entry → NodeFlags → NodeFlags
after_own last ticks kind e f = with_flags (flagged last kind (flags_of f) e) (heard_then ticks f.heard e)

-- it heard the last Tick
abbrev pub heard_last : Option ℕ → ℕ → NodeFlags → Bool
heard_last last ticks f = is_some last && (f.heard == ticks)

-- a Tick stands that it hasn't heard
abbrev pub is_late : Option ℕ → ℕ → NodeFlags → Bool
is_late last ticks f = is_some last && not (f.heard == ticks)

-- how it stands
abbrev pub standing : Option ℕ → ℕ → NodeFlags → Standing
standing last ticks f = record { up = f.up; gone = f.gone; due = f.due; behind = is_late last ticks f }

-- it is down, or has nothing to do beside taking copies
abbrev pub is_idle : Option ℕ → ℕ → NodeKind → NodeFlags → Bool
is_idle last ticks kind f = if f.up then (not f.due && not (is_late last ticks f)) && (not (is_broker kind) || f.gone) else true

-- ---- the nodes of a run, by their names

abbrev pub flags_at : List (NodeId × NodeFlags) → NodeId → Option NodeFlags
flags_at nodes n = lookup (same_node n) nodes

-- a node's flags in the walk: none is known that isn't of the run
abbrev pub shown : Option NodeFlags → Flags
shown None = opened_flags false
shown (Some f) = flags_of f

-- a node after an entry
abbrev pub after_entry : Option ℕ → ℕ → Entry → NodeId → Option NodeFlags → Option NodeFlags
after_entry last ticks e n o = if names n e then option_map (after_own last ticks n.kind e) o else o

abbrev pub standing_at : Option ℕ → ℕ → Option NodeFlags → Standing
standing_at last ticks None = record { up = false; gone = false; due = false; behind = false }
standing_at last ticks (Some f) = standing last ticks f

abbrev pub is_idle_at : Option ℕ → ℕ → NodeId → Option NodeFlags → Bool
is_idle_at last ticks n None = true
is_idle_at last ticks n (Some f) = is_idle last ticks n.kind f

-- the names of nodes that were opened
abbrev pub names_of : List Opened → List NodeId
names_of opened = map (λ (o : Opened). o.node) opened
