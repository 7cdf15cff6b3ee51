use Rattle.folder_look.proofs.Names.{◌≡◌, length}
use Rattle.folder_look.specs.Shown.{parts_of}
use Rattle.folder_look.specs.Runs.{any_try}
use Rattle.folder_look.proofs.runs.any_try.Given as goal

-- none so far is chosen
abbrev pub invariant-loop-effect : goal.invariant-loop-effect
invariant-loop-effect l = any_try (parts_of l.shown) l.rest ≡ any_try (parts_of l.shown) l.effects

abbrev pub decreases-loop-effect : goal.decreases-loop-effect
decreases-loop-effect l = length l.rest
