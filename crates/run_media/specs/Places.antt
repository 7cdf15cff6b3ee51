-- The order of a plan's nodes: repositories first, rising.
use Rattle.std.specs.Prelude.{ℕ, ◌+◌, ◌-◌, nat_lt, if◌then◌else◌}
use Rattle.pseudo_time.specs.declared.nodes.NodeId.{NodeId}
use Rattle.pseudo_time.specs.declared.nodes.NodeKind.{NodeKind}
use Rattle.pseudo_time.specs.declared.nodes.NodeKind.TheVariants.{Repository, Broker}
use Rattle.pseudo_time.specs.Nodes.{repository, broker}
use Rattle.plan_form.specs.declared.plans.Plan.{Plan}

abbrev pub node_count : Plan → ℕ
node_count plan = plan.repositories + plan.brokers

-- the node in this place, counted from 0
abbrev pub node_at : Plan → ℕ → NodeId
node_at plan place = if nat_lt place plan.repositories then repository (place + 1) else broker (place - plan.repositories + 1)

abbrev pub kind_place : Plan → NodeKind → ℕ → ℕ
kind_place plan Repository number = number - 1
kind_place plan Broker number = plan.repositories + number - 1

-- and the place of a node
abbrev pub place_of : Plan → NodeId → ℕ
place_of plan n = kind_place plan n.kind n.number
