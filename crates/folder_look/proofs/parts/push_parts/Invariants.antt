use Rattle.std.proofs.Common.{◌≡◌, ◌++◌, take}
use Rattle.folder_look.specs.Pieces.{parts_text}
use Rattle.folder_look.proofs.parts.push_parts.Given as goal

-- the parts so far are written
abbrev pub invariant-loop-part : goal.invariant-loop-part
invariant-loop-part l = l.out.items ≡ l.initial.out.items ++ parts_text (take l.part-index l.parts)
