use Rattle.std.proofs.Common.{◌≡◌, ◌≤◌, List, ℕ}
use Rattle.std.specs.Io.KnownBytes.{prepend_known}
use Rattle.session_command.specs.Ahead.{ahead}
use Rattle.session_command.proofs.InputLemmas.{SoFar}
use Rattle.session_command.proofs.inputs.SessionInput.read_batch.Given as goal

-- the lines so far are the batch's
abbrev pub invariant-loop : goal.invariant-loop
invariant-loop g l = record {
  so : (ls : List (List ℕ)) × SoFar (prepend_known (ahead l.fn.self.reader) (g.I.Source.left l.fn.source)) (prepend_known (ahead l.self.reader) (g.I.Source.left l.source)) l.fn.self.head.items l.text.items l.fn.self.lines l.self.lines l.is_idle_yet ls;
  head : l.self.head.items ≡ l.fn.self.head.items;
  later : g.I.Source.faults l.fn.source ≤ g.I.Source.faults l.source;
}
