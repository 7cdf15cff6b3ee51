use Rattle.vote_run.proofs.Names.{Line, Stands, hall_of, Lengthens, is_poll, PollsGo, PollsWent, ◌≡◌, List, length}
use Rattle.vote_run.proofs.poll_rounds.polls_go.Given as goal

abbrev pub invariant-loop-i : goal.invariant-loop-i
invariant-loop-i g l = record {
  end : length l.polls.items ≡ l.i-end;
  count : length l.polls.items ≡ length l.fn.polls.items;
  adds : Lengthens is_poll l.fn.courier.entries l.courier.entries;
  went : (lines : List Line) → Stands lines l.fn.courier → PollsGo (hall_of lines l.fn.courier) 0 l.fn.polls.items → PollsWent lines l.fn.courier l.courier l.i l.polls.items;
}
