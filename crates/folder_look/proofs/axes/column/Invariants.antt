use Rattle.folder_look.proofs.Names.{◌≡◌, ◌≤◌, columns_below}
use Rattle.folder_look.proofs.axes.column.Given as goal

-- those that are left are counted on
abbrev pub invariant-loop-other : goal.invariant-loop-other
invariant-loop-other l = record {
  value : columns_below l.count l.stamp l.other-iterator ≡ columns_below 0 l.stamp l.initial.other-iterator;
  most : l.count ≤ 1000000;
}
