use Rattle.folder_look.proofs.Names.{current, current_from, logs_of, ◌≡◌, ◌≤◌, drop}
use Rattle.folder_look.proofs.volumes.current_of.Given as goal

-- the last one so far that is whole stands unless a later one comes
abbrev pub invariant-loop-medium : goal.invariant-loop-medium
invariant-loop-medium l = record {
  few : l.volume ≤ l.medium-index;
  found : current_from l.found l.volume (logs_of l.repository (drop l.medium-index l.media)) ≡ current (logs_of l.repository l.media);
}
