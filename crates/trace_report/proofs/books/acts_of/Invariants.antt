use Rattle.trace_report.proofs.Names.{◌≡◌, take, acts_of}
use Rattle.trace_report.proofs.books.acts_of.Given as goal

abbrev pub invariant-loop-act : goal.invariant-loop-act
invariant-loop-act l = l.own.items ≡ acts_of l.number (take l.act-index l.acts)
