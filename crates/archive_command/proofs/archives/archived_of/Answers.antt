use Rattle.archive_command.proofs.Names.{arith, marks}
use Rattle.archive_command.proofs.ArchiveLemmas.{archived-step, some-step}
use Rattle.archive_command.proofs.archives.archived_of.Goals as goal

pub loop-volume-preserved : goal.loop-volume-preserved
loop-volume-preserved g c =
    let now = c.loop-volume.invariant in
    let v = c.loop-volume.volume in
    let done = c.in_ok-add_volume.ensures in
    let first = done.first in
    let more = done.more in
    let one = done.one in
    let some = now.some in
    let few = now.few in
    record {
      logs_are = archived-step (λ d. marks d.log) v c.args.openings.now c.index-openings-volume.result c.log_of-log.result.now _ _ _ c.loop-volume-test.true c.index-openings-volume.is c.log_of-log.ensures done.logs now.logs_are;
      volumes_are = archived-step (λ d. d.volume) v c.args.openings.now c.index-openings-volume.result c.log_of-log.result.now _ _ _ c.loop-volume-test.true c.index-openings-volume.is c.log_of-log.ensures done.volumes now.volumes_are;
      some = λ h. some-step v _ _ first more some;
      few = omega (arith, one, few);
    }
