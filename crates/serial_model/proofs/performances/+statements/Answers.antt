use Rattle.serial_model.proofs.Names.{arith, Ok, sym, ap, ◌∙◌, block, all_done, over_objects, state_of, came_to}
use Rattle.serial_model.proofs.StatementLemmas.{size_if, size_first, size_second, size_repeat, smaller_at, in_range_at, part_if, part_first, part_second, part_repeat, if_holds, first_holds, second_holds, repeat_goes, turns_one}
use Rattle.serial_model.proofs.performances.+statements.Goals as goal

pub begun-all-requires : goal.begun-all-requires
begun-all-requires t c =
    let smaller = size_if c.args.stmt.now c.in-If.line c.in-If.expression c.in-If.part c.in-If.field-3 c.as_slice.result.now c.in-If.is c.as_slice.ensures in
    (omega arith, part_if c.args.stmt.now c.in-If.line c.in-If.expression c.in-If.part c.in-If.field-3 c.as_slice.result.now c.in-If.is c.requires c.as_slice.ensures)

pub begun-all-requires-in-Ok-true-2 : goal.begun-all-requires-in-Ok-true-2
begun-all-requires-in-Ok-true-2 t c =
    let smaller = size_first c.args.stmt.now c.in-IfElse.line c.in-IfElse.expression c.in-IfElse.first c.in-IfElse.field-3 c.in-IfElse.second c.in-IfElse.field-5 c.as_slice-in-Ok-true-2.result.now c.in-IfElse.is c.as_slice-in-Ok-true-2.ensures in
    (omega arith, part_first c.args.stmt.now c.in-IfElse.line c.in-IfElse.expression c.in-IfElse.first c.in-IfElse.field-3 c.in-IfElse.second c.in-IfElse.field-5 c.as_slice-in-Ok-true-2.result.now c.in-IfElse.is c.requires c.as_slice-in-Ok-true-2.ensures)

pub begun-all-requires-in-Ok-false-2 : goal.begun-all-requires-in-Ok-false-2
begun-all-requires-in-Ok-false-2 t c =
    let smaller = size_second c.args.stmt.now c.in-IfElse.line c.in-IfElse.expression c.in-IfElse.first c.in-IfElse.field-3 c.in-IfElse.second c.in-IfElse.field-5 c.as_slice-in-Ok-false-2.result.now c.in-IfElse.is c.as_slice-in-Ok-false-2.ensures in
    (omega arith, part_second c.args.stmt.now c.in-IfElse.line c.in-IfElse.expression c.in-IfElse.first c.in-IfElse.field-3 c.in-IfElse.second c.in-IfElse.field-5 c.as_slice-in-Ok-false-2.result.now c.in-IfElse.is c.requires c.as_slice-in-Ok-false-2.ensures)

pub begun-turns-requires : goal.begun-turns-requires
begun-turns-requires t c =
    let smaller = size_repeat c.args.stmt.now c.in-Repeat.line c.in-Repeat.expression c.in-Repeat.part c.in-Repeat.field-3 c.as_slice-in-Ok.result.now c.in-Repeat.is c.as_slice-in-Ok.ensures in
    (omega arith, part_repeat c.args.stmt.now c.in-Repeat.line c.in-Repeat.expression c.in-Repeat.part c.in-Repeat.field-3 c.as_slice-in-Ok.result.now c.in-Repeat.is c.requires c.as_slice-in-Ok.ensures)

pub begun-returns-in_ok-all-in-Ok-true : goal.begun-returns-in_ok-all-in-Ok-true
begun-returns-in_ok-all-in-Ok-true t c = if_holds c.args.stmt.now c.in-If.line c.in-If.expression c.in-If.part c.in-If.field-3 c.as_slice.result.now (state_of c.args.work.now) c.in_ok-condition-in-If.field-0 _ c.in-If.is c.in_ok-condition-in-If.ensures (c.in-Ok-true.is ∙ ap Ok c.in-Ok-true.field-0-test) c.as_slice.ensures c.in_ok-all-in-Ok-true.ensures

pub begun-returns-in_ok-all-in-Ok-true-2 : goal.begun-returns-in_ok-all-in-Ok-true-2
begun-returns-in_ok-all-in-Ok-true-2 t c = first_holds c.args.stmt.now c.in-IfElse.line c.in-IfElse.expression c.in-IfElse.first c.in-IfElse.field-3 c.in-IfElse.second c.in-IfElse.field-5 c.as_slice-in-Ok-true-2.result.now (state_of c.args.work.now) c.in_ok-condition-in-IfElse.field-0 _ c.in-IfElse.is c.in_ok-condition-in-IfElse.ensures (c.in-Ok-true-2.is ∙ ap Ok c.in-Ok-true-2.field-0-test) c.as_slice-in-Ok-true-2.ensures c.in_ok-all-in-Ok-true-2.ensures

pub begun-returns-in_ok-all-in-Ok-false-2 : goal.begun-returns-in_ok-all-in-Ok-false-2
begun-returns-in_ok-all-in-Ok-false-2 t c = second_holds c.args.stmt.now c.in-IfElse.line c.in-IfElse.expression c.in-IfElse.first c.in-IfElse.field-3 c.in-IfElse.second c.in-IfElse.field-5 c.as_slice-in-Ok-false-2.result.now (state_of c.args.work.now) c.in_ok-condition-in-IfElse.field-0 _ c.in-IfElse.is c.in_ok-condition-in-IfElse.ensures (c.in-Ok-false-2.is ∙ ap Ok c.in-Ok-false-2.field-0-test) c.as_slice-in-Ok-false-2.ensures c.in_ok-all-in-Ok-false-2.ensures

pub begun-returns-in_ok-turns-in-Ok : goal.begun-returns-in_ok-turns-in-Ok
begun-returns-in_ok-turns-in-Ok t c = repeat_goes c.args.stmt.now c.in-Repeat.line c.in-Repeat.expression c.in-Repeat.part c.in-Repeat.field-3 c.as_slice-in-Ok.result.now (state_of c.args.work.now) c.in_ok-count-in-Repeat.field-0 c.in-Ok.count _ c.in-Repeat.is c.in_ok-count-in-Repeat.ensures c.in-Ok.is c.as_slice-in-Ok.ensures c.in_ok-turns-in-Ok.ensures

pub turns-turns-preserved : goal.turns-turns-preserved
turns-turns-preserved t c =
    sym (turns_one c.args.count c.turns._turn (all_done over_objects (block c.args.part.now)) (state_of c.turns.work) (state_of c.all.new.work) c.turns-test.true (c.in_ok-all.ensures ∙ ap (λ o. came_to o c.all.new.work) c.in-None.is))
    ∙ c.turns.invariant

pub all-one-requires : goal.all-one-requires
all-one-requires t c =
    let smaller = smaller_at c.args.part.now c.loop-stmt.stmt-index c.stmt-item.result c.loop-stmt-test.true c.stmt-item.is in
    (omega arith, in_range_at c.args.part.now c.loop-stmt.stmt-index c.stmt-item.result c.loop-stmt-test.true c.stmt-item.is c.loop-stmt.invariant.in_range)
