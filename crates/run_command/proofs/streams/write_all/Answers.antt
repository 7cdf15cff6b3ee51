use Rattle.std.proofs.Common.{arith}
use Rattle.run_command.proofs.StreamLemmas.{Appends-more, AppendsFront-fault, within_more}
use Rattle.run_command.proofs.streams.write_all.Goals as goal

pub returns-in_default-clause-err : goal.returns-in_default-clause-err
returns-in_default-clause-err g c = AppendsFront-fault _ _ _ c.args.bytes.now c.loop-at.at c.loop-at.invariant.bytes c.in_default.ensures.bytes

pub loop-at-preserved : goal.loop-at-preserved
loop-at-preserved g c = record {
  within = within_more c.args.bytes.now c.loop-at.at c.in-Ok.count c.loop-at.invariant.within c.in-Ok.ensures.bound.0;
  bytes = Appends-more _ _ _ c.args.bytes.now c.loop-at.at c.in-Ok.count c.loop-at.invariant.within c.loop-at.invariant.bytes c.in-Ok.ensures.bytes;
  later = omega (arith, c.loop-at.invariant.later, c.write.ensures.cause.later);
}
