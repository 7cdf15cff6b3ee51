use Rattle.serial_model.proofs.Names.{◌≡◌, length, onto}
use Rattle.serial_model.proofs.object_maps.with_entries.Given as goal

-- the entries that are left, over what is in the map
abbrev pub invariant-entries : goal.invariant-entries
invariant-entries l = onto l.map l.left.items ≡ onto l.initial.map l.initial.left.items

abbrev pub decreases-entries : goal.decreases-entries
decreases-entries l = length l.left.items
