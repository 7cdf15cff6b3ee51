use Rattle.vote_run.proofs.Names.{Line, hall_of, Between, HasCome, FareOn, MayAllTurn, ◌≡◌, ◌≤◌, false, List, length, IsTrue, LastOn}
use Rattle.vote_run.proofs.rounds.conduct.Given as goal

abbrev pub invariant-loop : goal.invariant-loop
invariant-loop g l = record {
  may : MayAllTurn g.M.Medium l.members;
  count : length l.polls.items ≡ length l.fn.polls.items;
  few : l.ticks ≤ l.limits.ticks;
  come : IsTrue g.M.Medium.tells → (lines : List Line) → length lines ≡ length l.fn.polls.items → Between g.M.Medium lines l.fn.courier l.fn.members l.fn.polls.items false
      → (hall_of lines l.fn.courier).ticks ≡ 0 → HasCome g.M.Medium lines l.fn.courier l.courier l.members l.polls.items l.behind l.ticks;
  fares : FareOn g.M.Medium l.fn.courier.entries l.fn.members l.courier.entries l.members;
  lasts : LastOn g.M.Medium l.fn.members l.members;
}
