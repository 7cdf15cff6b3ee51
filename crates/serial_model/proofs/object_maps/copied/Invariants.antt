use Rattle.std.proofs.Common.{◌≡◌, ◌++◌}
use Rattle.serial_model.proofs.object_maps.copied.Given as goal

-- the entries so far and those that are left are the map's
abbrev pub invariant-loop-object : goal.invariant-loop-object
invariant-loop-object l = l.all.items ++ l.object-iterator ≡ l.initial.object-iterator
