use Rattle.run_rounds.proofs.Names.{IsTrue, take}
use Rattle.run_rounds.specs.Settled.{IsListOf}
use Rattle.run_rounds.proofs.settled.list_for.Given as goal

abbrev pub invariant-loop-stamp : goal.invariant-loop-stamp
invariant-loop-stamp g l = IsTrue g.M.Medium.tells → IsListOf l.nodes (take l.stamp-index l.stamp-items) l.list.items
