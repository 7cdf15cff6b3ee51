use Rattle.script_form.specs.Lines.{lines}
use Rattle.script_form.proofs.ParseLemmas.{read_one, read_fault}
use Rattle.script_form.proofs.parsing.parse.Goals as goal

pub returns-in-Err : goal.returns-in-Err
returns-in-Err c =
    let r = c.loop-rest.invariant in
    read_fault 16 (lines c.args.bytes.now) (lines c.loop-rest.rest.now) (lines c.first_line.result.1.now) c.first_line.result.0.now c.loop-rest.reader c.in-Err.fault r c.first_line.ensures.first
    (c.in-Err.ensures r.done r.holds)

pub loop-rest-preserved : goal.loop-rest-preserved
loop-rest-preserved c =
    let r = c.loop-rest.invariant in
    read_one 16 (lines c.args.bytes.now) (lines c.loop-rest.rest.now) (lines c.first_line.result.1.now) c.first_line.result.0.now c.loop-rest.reader c.in-Ok.next r c.first_line.ensures.first
    (c.in-Ok.ensures r.done r.holds)
