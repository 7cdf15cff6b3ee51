use Rattle.folder_look.proofs.Names.{◌≡◌, ◌++◌, drop, rows_in}
use Rattle.folder_look.specs.Homes.{homes_of}
use Rattle.folder_look.proofs.objects.rows_in.Given as goal

-- the others follow with what is left of the versions
abbrev pub invariant-loop-object : goal.invariant-loop-object
invariant-loop-object l = l.rows.items ++ rows_in l.choice l.media (homes_of l.media) l.left (drop l.object-index l.objects) ≡ rows_in l.choice l.media (homes_of l.media) l.fn.most l.objects
