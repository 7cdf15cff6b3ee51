use Rattle.std.proofs.Common.{◌≡◌, take}
use Rattle.value_form.proofs.scripts.+copies.Given as goal

-- the statements so far are copied
abbrev pub invariant-copy_all-loop-stmt : goal.invariant-copy_all-loop-stmt
invariant-copy_all-loop-stmt l = l.all.items ≡ take l.stmt-index l.part
