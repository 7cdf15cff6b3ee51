use Rattle.std.proofs.Common.{◌≡◌, ℕ, true, reverse, take}
use Rattle.pseudo_time.specs.Lists.{Every}
use Rattle.pseudo_time.specs.StampParts.{StampParts}
use Rattle.world_core.specs.Deeds.{RunLogs, in_run, log_of}
use Rattle.log_replay.specs.Decisions.{AtMost, HasDecided, IsBased, IsLearned}
use Rattle.log_replay.proofs.decisions.Rulings.check_log.Given as goal

-- the effects so far
abbrev pub invariant-loop-effect : goal.invariant-loop-effect
invariant-loop-effect l = record {
  decided : l.self.decided ≡ l.initial.self.decided;
  least : (s : StampParts) → AtMost l.initial.self.least s → AtMost l.self.least s;
  fits : Every (IsLearned l.self.decided l.self.least) (take l.effect-index l.log);
  based : (k : RunLogs) (r : ℕ) → in_run k r ≡ true → log_of k r ≡ reverse l.log → HasDecided k l.initial.self → IsBased k l.initial.self → IsBased k l.self;
}
