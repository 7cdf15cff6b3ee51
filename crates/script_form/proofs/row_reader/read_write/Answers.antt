use Rattle.script_form.proofs.Names.{sym, ◌≤◌, arith, term, depth}
use Rattle.script_form.proofs.ReadLemmas.{write_fixed, write_fixed_fault, write_indexed, write_indexed_fault, no_write}
use Rattle.script_form.proofs.row_reader.read_write.Goals as goal

pub returns-in_err-value-in-Some : goal.returns-in_err-value-in-Some
returns-in_err-value-in-Some c = let at = c.in-Some in
    write_fixed_fault at.object at.rest.now c.args.tokens.now (sym at.ensures) c.from_residual.result c.in_err-value-in-Some.field-0.0 c.from_residual.ensures c.in_err-value-in-Some.ensures

pub returns-in_err-number-in-Some-indexed_of : goal.returns-in_err-number-in-Some-indexed_of
returns-in_err-number-in-Some-indexed_of c =
    let at = c.in-Some-indexed_of in
    let exit = c.from_residual-in_err-number-in-Some-indexed_of in
    write_indexed_fault at.repository at.part.now at.rest.now c.args.tokens.now (sym c.in-None.ensures) (sym at.ensures) exit.result c.in_err-number-in-Some-indexed_of.field-0.0 exit.ensures c.in_err-number-in-Some-indexed_of.ensures

pub returns-in_ok-value-in-Some : goal.returns-in_ok-value-in-Some
returns-in_ok-value-in-Some c =
    let at = c.in-Some in
    let read = c.in_ok-value-in-Some in
    let shallow : depth (term read.value) ≤ 16 = (read.ensures).1 in
    (write_fixed at.object at.rest.now c.args.tokens.now (sym at.ensures) (term read.value) (read.ensures).0, omega arith)

pub returns-in_ok-number-in-Some-indexed_of : goal.returns-in_ok-number-in-Some-indexed_of
returns-in_ok-number-in-Some-indexed_of c =
    let at = c.in-Some-indexed_of in
    let read = c.in_ok-number-in-Some-indexed_of in
    let first : depth (term read.number) ≤ 16 = (read.ensures).2 in
    let second : depth (term read.value) ≤ 16 = (read.ensures).3 in
    (write_indexed at.repository at.part.now at.rest.now c.args.tokens.now (sym at.ensures) (term read.number) (term read.value) (read.ensures).0 (read.ensures).1, omega arith)

pub returns-in-None-indexed_of : goal.returns-in-None-indexed_of
returns-in-None-indexed_of c = no_write c.args.tokens.now (sym c.in-None.ensures) (sym c.in-None-indexed_of.ensures)
