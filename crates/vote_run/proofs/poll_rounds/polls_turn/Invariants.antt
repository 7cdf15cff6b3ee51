use Rattle.vote_run.proofs.Names.{Line, Stands, hall_of, Lengthens, is_poll, PollsAre, PollsTurned, ◌≡◌, List, length}
use Rattle.vote_run.proofs.poll_rounds.polls_turn.Given as goal

abbrev pub invariant-loop-i : goal.invariant-loop-i
invariant-loop-i g l = record {
  end : length l.polls.items ≡ l.i-end;
  count : length l.polls.items ≡ length l.fn.polls.items;
  adds : Lengthens is_poll l.fn.courier.entries l.courier.entries;
  turned : (lines : List Line) → Stands lines l.fn.courier → PollsAre (hall_of lines l.fn.courier) 0 l.behind l.fn.polls.items → PollsTurned lines l.fn.courier l.courier l.i l.behind l.polls.items;
}
