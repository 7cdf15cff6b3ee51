use Rattle.std.proofs.Common.{refl, arith, ◌+◌, take}
use Rattle.log_replay.specs.Folders.{items_of}
use Rattle.log_replay.proofs.DecisionLemmas.{are-kept-on, inside-logs, kept-next, log-is, none-based}
use Rattle.log_replay.proofs.decisions.rulings_of.Goals as goal

pub loop-place-init : goal.loop-place-init
loop-place-init c = record { kept = tt; based = λ k have. none-based k c.new.result c.new.ensures }

pub loop-place-preserved : goal.loop-place-preserved
loop-place-preserved c =
    let now = c.loop-place.invariant in
    let logs = c.args.repositories.now in
    let i = c.loop-place.place in
    let new = c.read_log.new.self in
    let low = c.loop-place-test.true in
    let long = c.requires in
    record {
      kept = kept-next new.decided new.least logs i (i + 1) c.index-repositories-place.result c.as_slice.result.now low c.index-repositories-place.is c.as_slice.ensures.value refl
          (are-kept-on c.loop-place.rulings new c.in_ok-read_log.ensures.grown 0 (items_of (take i logs)) now.kept) c.in_ok-read_log.ensures.kept;
      based = λ k have.
          c.in_ok-read_log.ensures.based k (inside-logs k (items_of logs) i (i + 1) have (omega (arith, low, long)) refl) (log-is k logs i (i + 1) c.index-repositories-place.result c.as_slice.result.now have low c.index-repositories-place.is c.as_slice.ensures.value refl)
          (now.based k have);
    }
