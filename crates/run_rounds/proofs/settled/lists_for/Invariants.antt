use Rattle.run_rounds.proofs.Names.{AllZip, IsTrue, take}
use Rattle.run_rounds.specs.Settled.{IsListFor, IsOwn}
use Rattle.run_rounds.proofs.settled.lists_for.Given as goal

abbrev pub invariant-loop-node : goal.invariant-loop-node
invariant-loop-node g l = AllZip (λ n list. (IsTrue g.M.Medium.tells → IsListFor l.nodes n list.items) × IsOwn n) (take l.node-index l.nodes) l.lists.items
