-- The nodes of a folder, and what is read of each: repositories 1 to 16, then brokers 1 to 16.
use Rattle.std.specs.Prelude.{ℕ, suc, ◌-◌, List, length, map, nat_lt, if◌then◌else◌, Result, Vec}
use Rattle.std.specs.declared.alloc.Global.{Global}
use Rattle.pseudo_time.specs.Nodes.{broker, repository}
use Rattle.pseudo_time.specs.declared.nodes.NodeId.{NodeId}
use Rattle.effect_form.specs.declared.effects.Effect.{Effect}
use Rattle.log_replay.specs.Whole.{whole_in}
use Rattle.snapshot_command.specs.Archives.{complete}
use Rattle.snapshot_command.specs.KeptMedium.{Kept}
use Rattle.snapshot_command.specs.Media.{Media}
use Rattle.snapshot_command.specs.Nodes as nodes
use Rattle.snapshot_command.specs.Outcome.{Outcome}
use Rattle.snapshot_command.specs.Shelves.{ShelfSight}
use Rattle.replay_command.specs.declared.logs.NodeLog.{NodeLog}

-- the node in this place, from 0 on
abbrev pub node_at : ℕ → NodeId
node_at place = if nat_lt place 16 then repository (suc place) else broker (place - 15)

-- the logs of the complete ones among these volumes
abbrev pub complete_of : List (List Effect) → List (List Effect)
complete_of logs = map (λ c. c.log) (complete logs)

-- the log of a node whose volumes have these: that of the last complete one, with all versions that only earlier ones have
abbrev pub node_log : List (List Effect) → NodeLog
node_log logs = record { effects = whole_in (complete_of logs); volumes = length (complete_of logs) }

-- the volumes of the nodes were taken and opened, and their logs read; or this stopped it
abbrev pub Gathers : {M : Type 0} (w : Media M) (old new : ShelfSight) (kept : List (Kept M)) → Result (Vec NodeLog Global) Outcome → Type 0
Gathers w old new kept r = nodes.Gathers node_log w node_at 32 old new kept r
