use Rattle.std.proofs.Common.{◌≡◌, drop}
use Rattle.serial_model.specs.Deeds.{set_all}
use Rattle.script_replay.specs.Attempts.{versions_of}
use Rattle.script_replay.proofs.versions.set_all_in.Given as goal

-- what is left to write makes of the map so far what all make of the first
abbrev pub invariant-loop-put : goal.invariant-loop-put
invariant-loop-put l = set_all (versions_of (drop l.put-index l.puts)) l.map ≡ set_all (versions_of l.puts) l.initial.map
