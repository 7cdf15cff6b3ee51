use Rattle.std.proofs.Common.{◌≡◌, ℕ, List, [], take}
use Rattle.serial_model.specs.Questions.{Tree}
use Rattle.world_core.specs.Deeds.{RunLogs}
use Rattle.log_replay.specs.Folders.{ReadsLogs, items_of, tries_of}
use Rattle.log_replay.specs.Tellers.{AllScripts, HasTold, KeysIn, Knows}
use Rattle.log_replay.specs.Telling.{told_at}
use Rattle.log_replay.specs.Unfit.{stamps_onto}
use Rattle.log_replay.proofs.tells.attempts_of.Given as goal

-- the logs so far
abbrev pub invariant-loop-place : goal.invariant-loop-place
invariant-loop-place l = record {
  commits : l.teller.commits ≡ l.initial.teller.commits;
  keys : KeysIn (stamps_onto (items_of (take l.place l.brokers)) []) l.teller;
  scripts : AllScripts (told_at l.initial.teller.told) → AllScripts (told_at l.teller.told);
  told : (script : List ℕ → Tree) (k : RunLogs) → ReadsLogs script (items_of (take l.place l.brokers)) → Knows k l.initial.teller → HasTold k [] l.initial.teller → HasTold k (tries_of script (items_of (take l.place l.brokers))) l.teller;
}
