use Rattle.node_rounds.proofs.Names.{◌≡◌, length, All, AllWithin, knows, IsWirePass, Looked, EachNode, EachPlace, HasAllOf, HasMet, HasPass, HasSeen}
use Rattle.node_rounds.proofs.meetings.meet_all.Given as goal

abbrev pub invariant-loop-i : goal.invariant-loop-i
invariant-loop-i g l = record {
  size : length l.shares.items ≡ l.i-end;
  hold : EachNode (HasPass l.wire.lock) l.shares.items;
  pass_is : IsWirePass l.wire.lock l.pass;
  looked : Looked (knows l.fn.pass) (knows l.pass);
  all : AllWithin (λ nodes. All (HasAllOf (knows l.pass).story) nodes.items) l.shares.items 0 l.i;
  seen : AllWithin (λ nodes. All (HasSeen (knows l.fn.pass).story) nodes.items) l.shares.items 0 l.i;
  met : EachPlace HasMet l.fn.shares.items l.shares.items;
}
