use Rattle.std.proofs.Common.{◌≡◌, ◌≤◌, List, ℕ, []}
use Rattle.std.specs.Io.KnownBytes.{prepend_known}
use Rattle.session_form.specs.Sessions.{batch_text}
use Rattle.session_command.specs.Ahead.{ahead}
use Rattle.session_command.specs.Standings.{standing}
use Rattle.session_command.proofs.SessionLemmas.{SoHeld}
use Rattle.session_command.proofs.sessions.hold.Given as goal

-- the batches so far were answered
abbrev pub invariant-loop : goal.invariant-loop
invariant-loop g l = record {
  so : (repositories brokers : List ℕ) → l.fn.input.head.items ≡ batch_text repositories brokers []
      → SoHeld g.H.Shelf g.H.Medium.Medium l.fn.options repositories brokers (prepend_known (ahead l.fn.input.reader) (g.I.Source.left l.fn.source)) (prepend_known (ahead l.input.reader) (g.I.Source.left l.source))
      3 l.input.lines l.status l.counter
      (standing l.fn.shelf (g.O.Sink.taken l.fn.sink) (g.O.Sink.faults l.fn.sink) (g.F.Fates.asked l.fn.fates) (g.C.Clock.answers l.fn.clock))
      (standing l.shelf (g.O.Sink.taken l.sink) (g.O.Sink.faults l.sink) (g.F.Fates.asked l.fates) (g.C.Clock.answers l.clock));
  head : l.input.head.items ≡ l.fn.input.head.items;
  later : g.I.Source.faults l.fn.source ≤ g.I.Source.faults l.source;
}
