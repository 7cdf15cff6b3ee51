use Rattle.folder_look.proofs.Names.{◌≡◌, drop}
use Rattle.folder_look.specs.Steps.{end_of}
use Rattle.folder_look.proofs.steps.end_of.Given as goal

-- none so far ends it
abbrev pub invariant-loop-effect : goal.invariant-loop-effect
invariant-loop-effect l = end_of (drop l.effect-index l.rest) ≡ end_of l.rest
