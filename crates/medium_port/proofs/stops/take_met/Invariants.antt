use Rattle.medium_port.proofs.Names.{◌≡◌, ℕ, ◌<◌, get_or, false, Stop, is_at}
use Rattle.medium_port.proofs.stops.take_met.Given as goal

abbrev pub invariant-loop-index : goal.invariant-loop-index
invariant-loop-index l = record {
  same : l.stops.items ≡ l.initial.stops.items;
  past : (k : ℕ) (d : Stop) → k < l.index → is_at l.call l.write (get_or l.stops.items k d).at ≡ false;
}
