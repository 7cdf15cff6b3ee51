use Rattle.wire_lock.proofs.Names.{◌≡◌, ◌++◌, take, sees, IsInside, lock_of, has_noted, posted}
use Rattle.wire_lock.proofs.gates.post_all.Given as goal

abbrev pub invariant-loop-stamp : goal.invariant-loop-stamp
invariant-loop-stamp g l = record {
  lock : lock_of l.visit ≡ lock_of l.fn.visit;
  inside : (x : _) → IsInside l.fn.visit x → IsInside l.visit x;
  noted : has_noted l.visit ≡ has_noted l.fn.visit;
  sees_is : sees l.visit ≡ record (sees l.fn.visit) { posts = (sees l.fn.visit).posts ++ posted (take l.stamp-index l.decides) };
}
