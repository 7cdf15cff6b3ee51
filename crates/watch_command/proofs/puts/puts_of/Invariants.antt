use Rattle.watch_command.proofs.Names.{Every, IsObject, Effect, AreEffects, last_total, AreCursors, new_puts, ◌≡◌, List, take}
use Rattle.watch_command.proofs.puts.puts_of.Given as goal

abbrev pub invariant-loop-total : goal.invariant-loop-total
invariant-loop-total l = record {
  puts_are : (log : List Effect) → AreCursors (last_total log) l.cursors.entries → l.puts.items ≡ new_puts log (take l.total-index l.list);
  in_range : Every (λ t. IsObject t.object) l.list → AreEffects l.puts.items;
}
