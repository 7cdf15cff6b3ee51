use Rattle.run_command.proofs.Names.{◌-◌, ◌≤◌, length, Consumes}
use Rattle.run_command.proofs.streams.read_all.Given as goal

-- what was read is a prefix of the input, of at most one byte more than a plan has
abbrev pub invariant-loop-piece : goal.invariant-loop-piece
invariant-loop-piece g l = record {
  bytes : Consumes (g.I.Source.left l.fn.source) (g.I.Source.left l.source) l.bytes.items;
  later : g.I.Source.faults l.fn.source ≤ g.I.Source.faults l.source;
  bound : length l.bytes.items ≤ 4194305;
}

abbrev pub decreases-loop-piece : goal.decreases-loop-piece
decreases-loop-piece g l = 4194305 - length l.bytes.items
