use Rattle.script_form.proofs.Names.{take, block, Prints, rows}
use Rattle.script_form.proofs.script_printer.+printing.Given as goal

-- the rows of the statements so far are printed
abbrev pub invariant-put_all-part : goal.invariant-put_all-part
invariant-put_all-part l = Prints (rows (block (take l.stmt-index l.part))) l.initial.next l.initial.out.items l.after l.out.items
