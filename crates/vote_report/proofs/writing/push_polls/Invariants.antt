use Rattle.std.proofs.Common.{◌≡◌, ◌+◌, ◌++◌, drop}
use Rattle.vote_report.specs.Texts.{poll_lines}
use Rattle.vote_report.proofs.writing.push_polls.Given as goal

-- what is appended, and the lines of the polls that are left, are the lines of all
abbrev pub invariant-loop-poll : goal.invariant-loop-poll
invariant-loop-poll l = record {
  lines : l.out.items ++ poll_lines l.number (drop l.poll-index l.polls) ≡ l.initial.out.items ++ poll_lines 1 l.polls;
  number : l.number ≡ 1 + l.poll-index;
}
