use Rattle.folder_look.proofs.Names.{◌≡◌, ◌++◌, drop, map, take, told_at_home}
use Rattle.folder_look.proofs.homes.tell_homes.Given as goal

-- those so far are told
abbrev pub invariant-loop-place : goal.invariant-loop-place
invariant-loop-place l = l.rows.items ≡ map (told_at_home l.homes) (take l.place l.fn.rows.items) ++ drop l.place l.fn.rows.items
