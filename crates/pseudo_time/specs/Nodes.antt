-- Names of nodes: the node of a kind with a number, which kind a node is of, which names are the same, and which comes first.
use Rattle.std.specs.Prelude.{ℕ, Bool, true, false, ◌==◌, ◌&&◌}
use Rattle.std.specs.Ordering.{nat_cmp, ordering_then, is_lt}
use Rattle.std.specs.declared.cmp.Ordering.{Ordering}
use Rattle.pseudo_time.specs.declared.nodes.NodeId.{NodeId}
use Rattle.pseudo_time.specs.declared.nodes.NodeKind.{NodeKind}
use Rattle.pseudo_time.specs.declared.nodes.NodeKind.TheVariants.{Repository, Broker}

abbrev pub repository : ℕ → NodeId
repository n = record { kind = Repository; number = n }

abbrev pub broker : ℕ → NodeId
broker n = record { kind = Broker; number = n }

abbrev pub is_repository : NodeKind → Bool
is_repository Repository = true
is_repository Broker = false

abbrev pub is_broker : NodeKind → Bool
is_broker Repository = false
is_broker Broker = true

-- repositories come before brokers
abbrev pub kind_number : NodeKind → ℕ
kind_number Repository = 1
kind_number Broker = 2

-- the same kind and the same number
abbrev pub same_node : NodeId → NodeId → Bool
same_node a b = (kind_number a.kind == kind_number b.kind) && (a.number == b.number)

-- repositories first, then by number
abbrev pub node_cmp : NodeId → NodeId → Ordering
node_cmp a b = ordering_then (nat_cmp (kind_number a.kind) (kind_number b.kind)) (nat_cmp a.number b.number)

-- the first comes before the second
abbrev pub node_lt : NodeId → NodeId → Bool
node_lt a b = is_lt (node_cmp a b)
