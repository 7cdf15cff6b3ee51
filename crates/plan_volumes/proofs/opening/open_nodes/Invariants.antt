use Rattle.plan_volumes.proofs.Names.{shelf_sight, AreApart, NodeVolumes, ◌≡◌, ◌≤◌, ◌+◌, List, [], length, All, vec_capacity, node_count}
use Rattle.plan_volumes.proofs.opening.open_nodes.Given as goal

-- the volumes of as many nodes are apart as rooms were used
abbrev pub invariant-loop-room : goal.invariant-loop-room
invariant-loop-room g l = record {
  apart : (volumes : List (NodeVolumes g.S.Medium.Medium)) × (length volumes ≡ length l.openings.items)
      × AreApart g.S.Medium.Medium (shelf_sight g.S.Shelf l.fn.shelf) (shelf_sight g.S.Shelf l.shelf) l.plan volumes l.openings.items l.asides.items l.is_short;
  count : length l.rooms.items + length l.openings.items ≡ node_count l.plan;
  long : length l.asides.items ≡ length l.openings.items;
  empty : All (λ s. s.items ≡ []) l.rooms.items;
  room : All (λ s. 1000 ≤ vec_capacity s) l.rooms.items;
  places : (node_count l.plan ≤ vec_capacity l.openings) × (node_count l.plan ≤ vec_capacity l.asides);
}

abbrev pub decreases-loop-room : goal.decreases-loop-room
decreases-loop-room g l = length l.rooms.items
