use Rattle.node_rounds.proofs.Names.{◌≡◌, length, All, AllZip, AllWithin, knows, IsWirePass, Looked, HasAllOf, HasMet, HasPass, HasSeen}
use Rattle.node_rounds.proofs.meetings.meet_share.Given as goal

abbrev pub invariant-loop-i : goal.invariant-loop-i
invariant-loop-i g l = record {
  size : length l.nodes.items ≡ l.i-end;
  hold : All (HasPass l.wire.lock) l.nodes.items;
  pass_is : IsWirePass l.wire.lock l.pass;
  looked : Looked (knows l.fn.pass) (knows l.pass);
  all : AllWithin (HasAllOf (knows l.pass).story) l.nodes.items 0 l.i;
  seen : AllWithin (HasSeen (knows l.fn.pass).story) l.nodes.items 0 l.i;
  met : AllZip HasMet l.fn.nodes.items l.nodes.items;
}
