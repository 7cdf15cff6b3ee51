use Rattle.folder_look.proofs.Names.{◌≡◌, length}
use Rattle.folder_look.specs.Runs.{with_tries}
use Rattle.folder_look.proofs.runs.add_tries.Given as goal

-- those that are left are added to those so far
abbrev pub invariant-loop-effect : goal.invariant-loop-effect
invariant-loop-effect l = with_tries l.choice l.touches l.left l.rest l.all.keys ≡ with_tries l.choice l.touches l.most l.effects l.fn.all.keys

abbrev pub decreases-loop-effect : goal.decreases-loop-effect
decreases-loop-effect l = length l.rest
