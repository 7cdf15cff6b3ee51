use Rattle.archive_command.proofs.Names.{◌≡◌, ◌<◌, ◌≤◌, ◌++◌, length, map, drop, marks, logs_of, archive_of, complete_from, volumes_of}
use Rattle.archive_command.proofs.archives.archived_of.Given as goal

-- those that were read, and those to come
abbrev pub invariant-loop-volume : goal.invariant-loop-volume
invariant-loop-volume g l = record {
  logs_are : map (λ log. log.items) l.logs.items ++ map (λ c. marks c.log) (complete_from l.volume (logs_of (drop l.volume l.openings))) ≡ archive_of (logs_of l.openings);
  volumes_are : l.volumes.items ++ map (λ c. c.volume) (complete_from l.volume (logs_of (drop l.volume l.openings))) ≡ volumes_of (logs_of l.openings);
  some : 0 < l.volume → 0 < length l.logs.items;
  few : length l.logs.items ≤ l.volume;
}
