use Rattle.run_rounds.proofs.Names.{IsTrue, None, ◌≡◌}
use Rattle.std.specs.List.{AllWithin}
use Rattle.run_starts.specs.Doubts.{decision_of}
use Rattle.run_rounds.proofs.settled.found.Given as goal

abbrev pub invariant-loop-node : goal.invariant-loop-node
invariant-loop-node g l = IsTrue g.M.Medium.tells → AllWithin (λ h. decision_of h l.stamp ≡ None) l.nodes 0 l.node-index
