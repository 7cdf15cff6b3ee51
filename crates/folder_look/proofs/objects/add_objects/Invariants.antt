use Rattle.folder_look.proofs.Names.{◌≡◌, drop, with_objects}
use Rattle.folder_look.proofs.objects.add_objects.Given as goal

-- those that are left are added to those so far
abbrev pub invariant-loop-effect : goal.invariant-loop-effect
invariant-loop-effect l = with_objects (drop l.effect-index l.effects) l.all.keys ≡ with_objects l.effects l.fn.all.keys
