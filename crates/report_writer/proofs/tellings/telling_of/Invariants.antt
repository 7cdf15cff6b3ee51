use Rattle.report_writer.proofs.Names.{◌≡◌, reverse, take, marks, Tells}
use Rattle.report_writer.proofs.tellings.telling_of.Given as goal

abbrev pub invariant-loop-effect : goal.invariant-loop-effect
invariant-loop-effect l = record {
  object_is : l.telling.object ≡ l.fn.object;
  tells : Tells (marks (reverse (take l.effect-index l.effects))) l.telling;
}
