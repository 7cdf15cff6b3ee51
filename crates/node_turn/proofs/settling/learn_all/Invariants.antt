use Rattle.node_turn.proofs.Names.{knows, all_effects, IsWirePass, life_at, world_at, IsUp, IsUnwritten, Trail, ◌≡◌, List, [], false, take, IsTrue}
use Rattle.node_turn.specs.Settles.{AreKnown, Learning, Stand}
use Rattle.node_turn.proofs.settling.learn_all.Given as goal

abbrev pub invariant-loop-decision : goal.invariant-loop-decision
invariant-loop-decision g l = record {
  pass : IsWirePass l.wire.lock l.pass;
  up : IsUp g.M.Medium g.K.Meanings l.core (knows l.pass) l.node l.gone l.due l.draft;
  stand : IsTrue g.M.Medium.tells → Stand (world_at (knows l.pass)) l.decisions;
  known : IsTrue g.M.Medium.tells → AreKnown (all_effects (life_at (knows l.pass) l.node)) (take l.decision-index l.decisions);
  learning : IsTrue g.M.Medium.tells → Learning (life_at (knows l.initial.pass) l.node) (life_at (knows l.pass) l.node);
  trail : (learned : List _) × Trail l.node (knows l.initial.pass) (knows l.pass) [] learned [] 0;
  durable : l.draft.durable ≡ l.initial.draft.durable;
  unwritten : IsUnwritten g.M.Medium (g.K.Meanings.parts l.initial.core).medium (g.K.Meanings.parts l.core).medium;
  none : l.due ≡ false → l.draft ≡ l.initial.draft;
}
