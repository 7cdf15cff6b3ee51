use Rattle.trace_report.proofs.Names.{◌≡◌, reverse, take, kept}
use Rattle.trace_report.specs.Books as spec
use Rattle.trace_report.proofs.books.read_off.Given as goal

abbrev pub invariant-loop-place : goal.invariant-loop-place
invariant-loop-place l = kept l.begun.items ≡ spec.read_off (reverse (take l.place l.flags)) (reverse (take l.place l.effects))
