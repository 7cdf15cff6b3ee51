use Rattle.commit_watch.proofs.Names.{◌≡◌, ◌≤◌, ◌+◌, length, AreRising, with_all}
use Rattle.std.specs.Vec.{vec_len, vec_capacity}
use Rattle.commit_watch.proofs.watches.put_all.Given as goal

-- what is left is put into the list so far, which has room for it
abbrev pub invariant-loop-change : goal.invariant-loop-change
invariant-loop-change g l = record {
  left : with_all l.changes.items l.moved.items ≡ with_all l.fn.changes.items l.fn.moved.items;
  rising : AreRising l.moved.items;
  room : vec_len l.moved + length l.changes.items ≤ vec_capacity l.moved;
}

abbrev pub decreases-loop-change : goal.decreases-loop-change
decreases-loop-change g l = length l.changes.items
