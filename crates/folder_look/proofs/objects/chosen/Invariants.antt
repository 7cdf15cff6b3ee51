use Rattle.folder_look.proofs.Names.{◌≡◌, ◌++◌, filter, has_object}
use Rattle.folder_look.proofs.objects.chosen.Given as goal

-- those that are left are chosen from
abbrev pub invariant-loop-object : goal.invariant-loop-object
invariant-loop-object l = l.objects.items ++ filter (has_object l.choice) l.object-iterator ≡ filter (has_object l.choice) l.initial.object-iterator
