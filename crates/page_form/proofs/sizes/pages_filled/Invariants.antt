use Rattle.page_form.proofs.Names.{◌≤◌, ◌*◌, Filled}
use Rattle.page_form.proofs.sizes.pages_filled.Given as goal

abbrev pub invariant-loop-effect : goal.invariant-loop-effect
invariant-loop-effect l = record {
  filled : Filled l.effects l.effect-index l.full l.size;
  most : l.size ≤ 4091;
  few : l.full ≤ 18 * l.effect-index;
}
