use Rattle.std.proofs.Common.{arith}
use Rattle.watch_command.proofs.TotalLemmas.{cursors-none, restored-end}
use Rattle.watch_command.proofs.restoring.restore_all.Goals as goal

pub loop-at-init : goal.loop-at-init
loop-at-init g c = record {
  low = omega arith;
  cursors_are = cursors-none c.new.result.entries c.args.watches.now c.new.ensures.empty c.requires.none;
  restored = restored-end c.args.log.now c.args.watches.now c.requires.none;
}
