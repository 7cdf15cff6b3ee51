use Rattle.folder_look.proofs.Names.{◌≡◌, ◌++◌, length}
use Rattle.folder_look.specs.Shown.{parts_of}
use Rattle.folder_look.specs.Lines.{marks_text}
use Rattle.folder_look.proofs.lines.push_marks.Given as goal

-- those that are left are written on
abbrev pub invariant-loop-effect : goal.invariant-loop-effect
invariant-loop-effect l = l.out.items ++ marks_text (parts_of l.shown) l.rest ≡ l.fn.out.items ++ marks_text (parts_of l.shown) l.effects

abbrev pub decreases-loop-effect : goal.decreases-loop-effect
decreases-loop-effect l = length l.rest
