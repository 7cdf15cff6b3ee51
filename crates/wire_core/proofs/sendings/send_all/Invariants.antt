use Rattle.wire_core.proofs.Names.{posts, state_of, Sent, World, Numbered, post_of, asked_of, Marked, IsTied, all_marked, ◌≡◌, ◌++◌, List, map}
use Rattle.wire_core.proofs.sendings.send_all.Given as goal

abbrev pub invariant-loop-out : goal.invariant-loop-out
invariant-loop-out g l = record {
  asked : g.F.Fates.asked l.fates ≡ g.F.Fates.asked l.fn.fates ++ map asked_of l.news.items;
  posted : map post_of l.news.items ≡ posts l.from l.yielded;
  numbered : Numbered l.first l.news.items;
  tied : (w : World) (sent : List Sent) (marks : List Marked) → IsTied (state_of l.fn.flight) w sent marks → IsTied (state_of l.flight) w (sent ++ l.news.items) (marks ++ all_marked w.ticks l.news.items);
}
