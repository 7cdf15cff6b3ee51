use Rattle.laboratory.proofs.Names.{inl, inr, subst, arith, Appends}
use Rattle.std.proofs.lemmas.List.{take_all}
use Rattle.stream_port.specs.Causes.{rise_counts}
use Rattle.run_command.proofs.StreamLemmas.{Appends-more, AppendsFront-fault, within_more}
use Rattle.laboratory.proofs.lines.write_line.Goals as goal

pub returns-in_default : goal.returns-in_default
returns-in_default g c = inr (AppendsFront-fault _ _ _ c.args.line.now c.loop-at.at c.loop-at.invariant.bytes c.in_default.ensures.bytes, rise_counts 1 _ _ _ c.loop-at.invariant.later c.in_default.ensures.cause.failed)

pub returns : goal.returns
returns g c = inl (subst (λ text. Appends (g.O.Sink.taken c.args.sink.now) (g.O.Sink.taken c.loop-at.sink) text) (take_all c.loop-at.at c.args.line.now c.loop-at-test.false) c.loop-at.invariant.bytes)

pub loop-at-preserved : goal.loop-at-preserved
loop-at-preserved g c = record {
  within = within_more c.args.line.now c.loop-at.at c.in-Ok.count c.loop-at.invariant.within c.in-Ok.ensures.bound.0;
  bytes = Appends-more _ _ _ c.args.line.now c.loop-at.at c.in-Ok.count c.loop-at.invariant.within c.loop-at.invariant.bytes c.in-Ok.ensures.bytes;
  later = omega (arith, c.loop-at.invariant.later, c.write.ensures.cause.later);
}
