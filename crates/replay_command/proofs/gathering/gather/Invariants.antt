use Rattle.std.specs.Prelude.{◌≡◌, ◌≤◌, ◌*◌, List, length, vec_len, vec_capacity}
use Rattle.snapshot_command.specs.Nodes.{AreNodes, IsRead, Volumes}
use Rattle.snapshot_command.specs.Shelves.{shelf_sight}
use Rattle.replay_command.specs.Nodes.{node_at, node_log}
use Rattle.replay_command.proofs.gathering.gather.Given as goal

-- the nodes before this place
abbrev pub invariant-loop-place : goal.invariant-loop-place
invariant-loop-place g l = record {
  volumes : (vs : List (Volumes g.S.Medium.Medium)) × (length vs ≡ l.place)
      × AreNodes node_at g.S.Medium.Medium (shelf_sight g.S.Shelf l.fn.shelf) (shelf_sight g.S.Shelf l.shelf) vs l.kept.items × IsRead node_log g.S.Medium.Medium node_at vs l.logs.items;
  few : vec_len l.kept ≤ 1000 * l.place;
  room : 32000 ≤ vec_capacity l.kept;
}
