use Rattle.folder_look.proofs.Names.{◌≡◌, length}
use Rattle.folder_look.specs.Shown.{parts_of}
use Rattle.folder_look.specs.Runs.{tries_from}
use Rattle.folder_look.proofs.runs.count_tries.Given as goal

-- those that are left are counted on
abbrev pub invariant-loop-effect : goal.invariant-loop-effect
invariant-loop-effect l = tries_from (parts_of l.shown) l.count l.rest ≡ tries_from (parts_of l.shown) 0 l.effects

abbrev pub decreases-loop-effect : goal.decreases-loop-effect
decreases-loop-effect l = length l.rest
