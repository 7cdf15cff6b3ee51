use Rattle.std.proofs.Common.{◌≤◌, List, ℕ}
use Rattle.std.specs.Io.KnownBytes.{Consumes, prepend_known}
use Rattle.session_form.specs.Sessions.{IsInLine}
use Rattle.session_command.specs.Ahead.{ahead}
use Rattle.session_command.specs.Kept.{IsKept}
use Rattle.session_command.proofs.line_readers.LineReader.read_line.Given as goal

-- the bytes so far were read, and none is the end of a line
abbrev pub invariant-loop : goal.invariant-loop
invariant-loop g l = record {
  so : (line : List ℕ) × Consumes (prepend_known (ahead l.fn.self) (g.I.Source.left l.fn.source)) (prepend_known (ahead l.self) (g.I.Source.left l.source)) line × IsInLine line × IsKept l.bytes.items line;
  later : g.I.Source.faults l.fn.source ≤ g.I.Source.faults l.source;
}
