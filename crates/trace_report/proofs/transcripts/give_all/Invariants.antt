use Rattle.trace_report.proofs.Names.{◌≡◌, ◌++◌, take, answers_of}
use Rattle.trace_report.proofs.transcripts.give_all.Given as goal

-- the run was given the answers so far
abbrev pub invariant-loop-answer : goal.invariant-loop-answer
invariant-loop-answer l = (l.run.script ≡ l.initial.run.script) × (l.run.answers ≡ l.initial.run.answers ++ answers_of (take l.answer-index l.answers))
