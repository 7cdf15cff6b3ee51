use Rattle.run_command.proofs.Names.{◌-◌, ◌≤◌, length, take, Appends}
use Rattle.run_command.proofs.streams.write_all.Given as goal

-- the first bytes were written
abbrev pub invariant-loop-at : goal.invariant-loop-at
invariant-loop-at g l = record {
  within : l.at ≤ length l.bytes;
  bytes : Appends (g.O.Sink.taken l.fn.sink) (g.O.Sink.taken l.sink) (take l.at l.bytes);
  later : g.O.Sink.faults l.fn.sink ≤ g.O.Sink.faults l.sink;
}

abbrev pub decreases-loop-at : goal.decreases-loop-at
decreases-loop-at g l = length l.bytes - l.at
