use Rattle.node_turn.proofs.Names.{knows, all_effects, IsWirePass, life_at, IsUp, IsUnwritten, Seeks, AreSought, ◌≡◌, ◌-◌, ◌^◌, true, take, IsTrue}
use Rattle.node_turn.proofs.lookups.look_up_all.Given as goal

abbrev pub invariant-loop-index : goal.invariant-loop-index
invariant-loop-index g l = record {
  pass : IsWirePass l.wire.lock l.pass;
  up : IsUp g.M.Medium g.K.Meanings l.core (knows l.pass) l.node l.gone true l.draft;
  durable : l.draft.durable ≡ l.initial.draft.durable;
  unwritten : IsUnwritten g.M.Medium (g.K.Meanings.parts l.initial.core).medium (g.K.Meanings.parts l.core).medium;
  seeks : Seeks l.node (knows l.initial.pass) (knows l.pass) (λ tests. IsTrue g.M.Medium.tells → AreSought (all_effects (life_at (knows l.pass) l.node)) (take l.index l.draft.outs) tests);
}

abbrev pub decreases-loop-index : goal.decreases-loop-index
decreases-loop-index g l = 2 ^ 64 - l.index
