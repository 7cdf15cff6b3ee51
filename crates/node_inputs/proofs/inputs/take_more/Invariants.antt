use Rattle.node_inputs.proofs.Names.{knows, IsWirePass, IsUp, IsUnwritten, Trail, ◌≡◌, [], true}
use Rattle.node_inputs.proofs.inputs.take_more.Given as goal

abbrev pub invariant-loop : goal.invariant-loop
invariant-loop g l = record {
  pass : IsWirePass l.wire.lock l.pass;
  up : IsUp g.M.Medium g.K.Meanings l.core (knows l.pass) l.node l.gone true l.draft;
  durable : l.draft.durable ≡ l.initial.draft.durable;
  trail : Trail l.node (knows l.initial.pass) (knows l.pass) [] [] [] 0;
  unwritten : IsUnwritten g.M.Medium (g.K.Meanings.parts l.initial.core).medium (g.K.Meanings.parts l.core).medium;
}
