use Rattle.std.proofs.Common.{◌≡◌, ◌++◌, length}
use Rattle.session_command.specs.Standings.{ArePutBack}
use Rattle.session_command.proofs.putting.put_all_back.Given as goal

-- those behind the ones that are left were put back
abbrev pub invariant-loop-node : goal.invariant-loop-node
invariant-loop-node g l = (done : _) × (l.fn.media.items ≡ l.media.items ++ done) × ArePutBack g.H.Shelf g.H.Medium.Medium done l.fn.shelf l.shelf

abbrev pub decreases-loop-node : goal.decreases-loop-node
decreases-loop-node g l = length l.media.items
