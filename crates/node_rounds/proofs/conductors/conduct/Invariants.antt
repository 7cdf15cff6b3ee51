use Rattle.node_rounds.proofs.Names.{◌≡◌, ◌≤◌, ◌^◌, length, IsTrue, base_of, knows, base_from, IsWirePass, tick_count, EachNode, EachPlace, GoesOn, IsKeptThrough, IsReady, TicksAreWanted}
use Rattle.node_rounds.proofs.conductors.conduct.Given as goal

abbrev pub invariant-loop-rounds : goal.invariant-loop-rounds
invariant-loop-rounds g l = record {
  ready : EachNode (IsReady l.wire.lock) l.shares.items;
  went : EachPlace (GoesOn g.M.Medium.tells g.M.Medium.faults g.M.Medium.reads) l.fn.shares.items l.shares.items;
  kept : EachPlace (IsKeptThrough g.M.Medium.tells g.M.Medium.stages) l.fn.shares.items l.shares.items;
  pass_is : IsWirePass l.wire.lock l.pass;
  conductor : (knows l.pass).owner ≡ 0;
  ticked : tick_count (knows l.pass).own ≡ l.ticks;
  few : l.ticks ≤ l.limits.ticks;
  each : l.rounds ≤ l.entries;
  there : l.entries ≤ length (knows l.pass).story;
  small : l.entries ≤ 2 ^ 32;
  wanted : IsTrue g.M.Medium.tells → TicksAreWanted (base_from (base_of l.wire.lock).origin) (knows l.pass).story l.shares.items;
}
