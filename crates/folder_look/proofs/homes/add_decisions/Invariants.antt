use Rattle.folder_look.proofs.Names.{◌≡◌, drop, with_decisions}
use Rattle.folder_look.proofs.homes.add_decisions.Given as goal

-- those that are left are added to those so far
abbrev pub invariant-loop-effect : goal.invariant-loop-effect
invariant-loop-effect l = with_decisions (drop l.effect-index l.effects) l.homes ≡ with_decisions l.effects l.fn.homes
