use Rattle.folder_look.proofs.Names.{log_at, logs_of, ◌≡◌, drop}
use Rattle.folder_look.proofs.volumes.log_of.Given as goal

-- so many volumes come before it still
abbrev pub invariant-loop-medium : goal.invariant-loop-medium
invariant-loop-medium l = log_at (logs_of l.repository (drop l.medium-index l.media)) l.left ≡ log_at (logs_of l.repository l.media) l.volume
