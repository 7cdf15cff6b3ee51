use Rattle.page_form.proofs.Names.{Log, AreEffects, AreBelow, ArePlaces, IsFound, ◌≤◌, ◌<◌, ℕ, length}
use Rattle.page_form.proofs.ReadLemmas.{SoFar}
use Rattle.page_form.proofs.page_reads.add_effects.Given as goal

abbrev pub invariant-loop : goal.invariant-loop
invariant-loop l = record {
  less : length l.rest ≤ length l.texts;
  places : ArePlaces l.heads;
  below : (limit : ℕ) → l.page < limit → AreBelow limit l.fn.heads → AreBelow limit l.heads;
  ranges : AreEffects l.fn.effects.items → AreEffects l.effects.items;
  content : (log : Log) → IsFound l.fn.heads l.fn.effects.items log → SoFar log l.page l.from l.texts l.counter l.rest l.heads l.effects.items;
}
