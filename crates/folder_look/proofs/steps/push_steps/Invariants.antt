use Rattle.folder_look.proofs.Names.{◌≡◌, ◌++◌, drop}
use Rattle.folder_look.specs.Shown.{parts_of}
use Rattle.folder_look.specs.Steps.{steps_text}
use Rattle.folder_look.proofs.steps.push_steps.Given as goal

-- those that are left are written on
abbrev pub invariant-loop-effect : goal.invariant-loop-effect
invariant-loop-effect l = l.out.items ++ steps_text (parts_of l.shown) l.stamp (drop l.effect-index l.rest) ≡ l.fn.out.items ++ steps_text (parts_of l.shown) l.stamp l.rest
