use Rattle.std.proofs.Common.{◌≡◌, ◌≤◌, ◌+◌, drop}
use Rattle.std.specs.Prelude.{◌↔◌}
use Rattle.serial_model.specs.Deeds.{lines_written}
use Rattle.script_replay.specs.Attempts.{versions_of}
use Rattle.script_replay.proofs.versions.wrote_so.Given as goal

-- the versions stand beside the lines just where those that are left stand beside the lines that are left
abbrev pub invariant-loop-line : goal.invariant-loop-line
invariant-loop-line l =
    ((versions_of l.puts ≡ lines_written l.stamp 1 l.lines) ↔ (versions_of l.rest ≡ lines_written l.stamp l.step (drop l.line-index l.lines)))
    × (l.step ≤ l.line-index + 1)
