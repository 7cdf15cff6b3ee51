use Rattle.std.specs.Vec.Iter.{into_iter_items}
use Rattle.node_turn.proofs.Names.{is_broker, AreOuts, leaves, Base, Life, all_effects, AskNobody, ◌≡◌, true, IsTrue, filter}
use Rattle.node_turn.proofs.closings.leaving.Given as goal

abbrev pub invariant-loop-out : goal.invariant-loop-out
invariant-loop-out g l = record {
  leaving : IsTrue g.M.Medium.tells → (b : Base) (x : Life) → g.K.Meanings.lives b l.core x → (is_broker l.node.kind ≡ true → AskNobody l.yielded) → l.all.items ≡ filter (leaves (all_effects x)) l.yielded;
  in_range : AreOuts l.all.items;
  waiting : AreOuts (into_iter_items l.out-iterator);
}
