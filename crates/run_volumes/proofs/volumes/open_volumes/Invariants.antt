use Rattle.run_volumes.proofs.Names.{◌≡◌, length, shelf_sight}
use Rattle.std.specs.Prelude.{vec_capacity}
use Rattle.run_volumes.proofs.VolumeLemmas.{Opened}
use Rattle.run_volumes.proofs.volumes.open_volumes.Given as goal

-- behind each volume so far the next one is taken
abbrev pub invariant-loop-volume : goal.invariant-loop-volume
invariant-loop-volume g l = record {
  opened : Opened g.S.Medium.Medium (shelf_sight g.S.Shelf l.fn.shelf) (shelf_sight g.S.Shelf l.shelf) l.node l.openings.items;
  count : length l.openings.items ≡ l.volume;
  room : vec_capacity l.openings ≡ vec_capacity l.fn.room;
}
