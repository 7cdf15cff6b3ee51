use Rattle.std.specs.Prelude.{◌≡◌, ◌≤◌, ◌+◌, ◌*◌, List, suc, length, vec_len, vec_capacity}
use Rattle.watch_command.specs.Shelves.{shelf_sight}
use Rattle.watch_command.specs.Archives.{joined_marks}
use Rattle.snapshot_command.specs.Nodes.{IsRead, Volumes}
use Rattle.snapshot_command.specs.Repositories.{AreRepositories, in_order}
use Rattle.snapshot_command.proofs.gathering.gather.Given as goal

-- the repositories before this number
abbrev pub invariant-loop-number : goal.invariant-loop-number
invariant-loop-number g l = record {
  volumes : (vs : List (Volumes g.S.Medium.Medium)) × (suc (length vs) ≡ l.number)
      × AreRepositories g.S.Medium.Medium (shelf_sight g.S.Shelf l.fn.shelf) (shelf_sight g.S.Shelf l.shelf) vs l.kept.items × IsRead joined_marks g.S.Medium.Medium in_order vs l.known.items;
  few : vec_len l.kept + 1000 ≤ 1000 * l.number;
  room : 16000 ≤ vec_capacity l.kept;
}
