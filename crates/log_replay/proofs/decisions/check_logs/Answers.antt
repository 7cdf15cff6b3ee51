use Rattle.std.proofs.Common.{refl, sym, subst, arith, ◌+◌, ◌∙◌, take}
use Rattle.log_replay.specs.Decisions.{AreLearned}
use Rattle.log_replay.specs.Folders.{items_of}
use Rattle.log_replay.proofs.DecisionLemmas.{are-learned-on, decided-on, has-decided, inside-logs, learned-next, log-is}
use Rattle.log_replay.proofs.decisions.check_logs.Goals as goal

pub loop-log-preserved : goal.loop-log-preserved
loop-log-preserved c =
    let now = c.loop-log.invariant in
    let logs = c.args.repositories.now in
    let i = c.loop-log.log-index in
    let new = c.check_log.new.self in
    let low = c.loop-log-test.true in
    let long = c.requires.length in
    record {
      decided = c.check_log.ensures.decided ∙ now.decided;
      least = λ s m. c.check_log.ensures.least s (now.least s m);
      learned = learned-next new.decided new.least logs i c.log-item.result c.as_slice.result.now low c.log-item.is c.as_slice.ensures.value
          (are-learned-on new.decided c.loop-log.rulings.least new.least c.check_log.ensures.least (items_of (take i logs)) (subst (λ d. AreLearned d c.loop-log.rulings.least (items_of (take i logs))) (sym c.check_log.ensures.decided) now.learned)) c.check_log.ensures.fits;
      based = λ k have based.
          c.check_log.ensures.based k (i + 1) (inside-logs k (items_of logs) i (i + 1) have (omega (arith, low, long)) refl) (log-is k logs i (i + 1) c.log-item.result c.as_slice.result.now have low c.log-item.is c.as_slice.ensures.value refl)
          (decided-on k c.args.rulings c.loop-log.rulings now.decided now.least (has-decided k (items_of logs) have c.args.rulings c.requires.kept)) (now.based k have based);
    }
