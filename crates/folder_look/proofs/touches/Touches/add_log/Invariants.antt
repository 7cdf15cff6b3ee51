use Rattle.folder_look.proofs.Names.{◌≡◌, drop}
use Rattle.folder_look.specs.Touches.{with_log}
use Rattle.folder_look.proofs.touches.Touches.add_log.Given as goal

-- those that are left are added to those so far
abbrev pub invariant-loop-effect : goal.invariant-loop-effect
invariant-loop-effect l = with_log (drop l.effect-index l.effects) l.self ≡ with_log l.effects l.fn.self
