use Rattle.trace_logs.proofs.Names.{filter, posts, leaves, Base, Life, all_posted, AreLetters, Lives, ◌≡◌, ◌++◌, []}
use Rattle.trace_logs.proofs.replayed_nodes.ReplayedNode.send_all.Given as goal

-- those so far
abbrev pub invariant-loop-out : goal.invariant-loop-out
invariant-loop-out l =
    ((b : Base) (x : Life) → Lives b l.self x → x.fresh ≡ [] → all_posted l.letters.items ≡ all_posted l.initial.letters.items ++ posts l.self.node (filter (leaves x.gated) l.yielded))
    × (AreLetters l.initial.letters.items → AreLetters l.letters.items)
