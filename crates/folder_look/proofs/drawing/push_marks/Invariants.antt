use Rattle.folder_look.proofs.Names.{◌≡◌, ◌++◌, flat_map}
use Rattle.folder_look.specs.Drawing.{mark_text, every_of}
use Rattle.folder_look.specs.Shown.{parts_of}
use Rattle.folder_look.proofs.drawing.push_marks.Given as goal

-- those that are left are written on
abbrev pub invariant-loop-stamp : goal.invariant-loop-stamp
invariant-loop-stamp l =
    l.out.items ++ flat_map (mark_text (parts_of l.shown) l.axis.keys (every_of l.axis.keys)) l.stamp-iterator
    ≡ l.fn.out.items ++ flat_map (mark_text (parts_of l.shown) l.axis.keys (every_of l.axis.keys)) l.initial.stamp-iterator
