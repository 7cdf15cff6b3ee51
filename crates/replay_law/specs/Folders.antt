-- What a past left, as a run of all attempts that its logs tell.
use Rattle.std.specs.Prelude.{ℕ, List, [], ◌∷◌, reverse}
use Rattle.serial_model.specs.Questions.{Tree}
use Rattle.broker_core.specs.Tasks.{Scripted}
use Rattle.world_core.specs.Deeds.{RunLogs}
use Rattle.log_replay.specs.Folders.{folder_run}
use Rattle.serial_law.specs.Earlier.{Earlier}
use Rattle.serial_law.specs.Earlier.Earlier.{Retiring, Running}
use Rattle.serial_law.specs.Wholes.{whole_run}
use Rattle.serial_law.specs.Serials.{olds_in}
use Rattle.archive_law.specs.Archives.{log_after}

-- what a past left, as its logs stand
abbrev pub folder_after : (List ℕ → Tree) → List Earlier → RunLogs
folder_after script cs = folder_run script (λ n. reverse (log_after cs n))

-- and with all versions that ever stood, which its volumes have together
abbrev pub whole_after : (List ℕ → Tree) → List Earlier → RunLogs
whole_after script cs = whole_run (olds_in cs) (folder_after script cs)

-- the scripts of all plans of a past are read by it
abbrev pub ReadsAll : (List ℕ → Tree) → List Earlier → Type 0
ReadsAll script [] = Unit {0}
ReadsAll script (Running c ∷ cs) = Scripted script c.plan.acts × ReadsAll script cs
ReadsAll script (Retiring r at ∷ cs) = ReadsAll script cs
