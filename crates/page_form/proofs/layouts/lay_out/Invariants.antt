use Rattle.page_form.proofs.Names.{Log, Filled, filling, HeadsFit, AreBelow, ArePlaces, IsBody, LaidOut, bytes_of, ◌≡◌, ◌+◌, ◌≤◌, ℕ, length, drop, All}
use Rattle.page_form.proofs.layouts.lay_out.Given as goal

abbrev pub invariant-loop-effect : goal.invariant-loop-effect
invariant-loop-effect l = record {
  at : l.page ≡ l.first + length l.bodies.items;
  filled : Filled l.effects l.effect-index (length l.bodies.items) (length l.texts.items);
  most : length l.texts.items ≤ 4091;
  bodies : All IsBody l.bodies.items;
  places : ArePlaces l.heads;
  below : (limit : ℕ) → l.first + length (filling l.effects) ≤ limit → AreBelow limit l.fn.heads → AreBelow limit l.heads;
  content : (log : Log) → HeadsFit l.fn.heads log → LaidOut log l.first l.effects (bytes_of l.bodies.items) l.texts.items l.heads l.page (drop l.effect-index l.effects);
}
