use Rattle.std.proofs.Common.{◌≡◌, ◌++◌, take}
use Rattle.page_text.specs.Escapes.{attribute_text}
use Rattle.page_text.proofs.writing.push_attribute.Given as goal

-- the bytes so far are written
abbrev pub invariant-loop-byte : goal.invariant-loop-byte
invariant-loop-byte l = l.out.items ≡ l.fn.out.items ++ attribute_text (take l.byte-index l.bytes)
