use Rattle.std.proofs.Common.{arith}
use Rattle.archive_command.proofs.ArchiveLemmas.{archived-step}
use Rattle.replay_command.proofs.logs.complete_logs.Goals as goal

pub loop-volume-preserved : goal.loop-volume-preserved
loop-volume-preserved g c =
    let now = c.loop-volume.invariant in
    let done = c.in_ok-add_volume.ensures in
    let one = done.one in
    let few = now.few in
    record {
      logs_are = archived-step (λ d. d.log) c.loop-volume.volume c.args.openings.now c.index-openings-volume.result c.log_of-log.result.now _ _ _ c.loop-volume-test.true c.index-openings-volume.is c.log_of-log.ensures done.logs now.logs_are;
      few = omega (arith, one, few);
    }
