use Rattle.std.proofs.Common.{◌≡◌, true, reverse, take}
use Rattle.pseudo_time.specs.Lists.{Every}
use Rattle.world_core.specs.Deeds.{RunLogs, in_run, log_of}
use Rattle.log_replay.specs.Decisions.{HasGrown, IsBased, IsKept}
use Rattle.log_replay.proofs.decisions.Rulings.read_log.Given as goal

-- the effects so far
abbrev pub invariant-loop-effect : goal.invariant-loop-effect
invariant-loop-effect l = record {
  grown : HasGrown l.initial.self l.self;
  based : (k : RunLogs) → in_run k l.repository ≡ true → log_of k l.repository ≡ reverse l.log → IsBased k l.initial.self → IsBased k l.self;
  kept : Every (IsKept l.repository l.self.decided l.self.least) (take l.effect-index l.log);
}
