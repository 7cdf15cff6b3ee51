use Rattle.script_form.proofs.Names.{sym, term}
use Rattle.script_form.proofs.ReadLemmas.{place_fault, indexed_place, place_not_alone, no_place}
use Rattle.script_form.proofs.row_reader.read_place.Goals as goal

pub returns-in_err-number-in-Some-indexed_of : goal.returns-in_err-number-in-Some-indexed_of
returns-in_err-number-in-Some-indexed_of c = let at = c.in-Some-indexed_of in
    place_fault at.repository at.part.now at.rest.now c.args.tokens.now (sym c.if-is_empty-2.ensures) (sym c.in-None.ensures) (sym at.ensures) c.from_residual.result c.in_err-number-in-Some-indexed_of.field-0.0 c.from_residual.ensures c.in_err-number-in-Some-indexed_of.ensures

pub returns-in_ok-number-in-Some-indexed_of : goal.returns-in_ok-number-in-Some-indexed_of
returns-in_ok-number-in-Some-indexed_of c =
    let at = c.in-Some-indexed_of in
    let read = c.in_ok-number-in-Some-indexed_of in
    (indexed_place at.repository at.part.now at.rest.now c.args.tokens.now (sym c.if-is_empty-2.ensures) (sym at.ensures) (term read.number) (read.ensures).0, (read.ensures).1)

pub returns-else-is_empty-2 : goal.returns-else-is_empty-2
returns-else-is_empty-2 c = let at = c.in-Some-indexed_of in
    place_not_alone at.repository at.part.now at.rest.now c.args.tokens.now (sym c.if-is_empty-2.ensures) (sym c.in-None.ensures) (sym at.ensures)

pub returns-in-None-indexed_of : goal.returns-in-None-indexed_of
returns-in-None-indexed_of c = no_place c.args.tokens.now (sym c.in-None.ensures) (sym c.in-None-indexed_of.ensures)
