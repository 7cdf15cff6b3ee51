use Rattle.script_form.proofs.Names.{◌∙◌, ap, ◌++◌, term, row_text}
use Rattle.script_form.specs.Row as r
use Rattle.script_form.proofs.ScriptTextLemmas.{Prints-next, if_ends, if_else_ends, repeat_ends}
use Rattle.script_form.proofs.script_printer.+printing.Goals as goal

pub put_all-part-preserved : goal.put_all-part-preserved
put_all-part-preserved t c =
    Prints-next c.args.part.now c.part.stmt-index c.stmt-item.result c.part-test.true c.stmt-item.is c.args.next c.part.after c.in_ok-after.after c.args.out.now.items c.part.out.items c.put_one.new.out.items c.part.invariant c.in_ok-after.ensures

pub put_one-returns-in-If : goal.put_one-returns-in-If
put_one-returns-in-If t c =
    let at = c.in-If in
    let first = c.in_ok-after-in-If in
    let inner = c.in_ok-after-in-If-2 in
    let last = c.put_line-in-If-2 in
    if_ends c.args.stmt.now at.line at.condition at.part c.as_slice-in-If-2.result.now at.end c.args.next first.after inner.after c.args.out.now.items c.put_line-in-If.new.out.items c.put_all.new.out.items last.new.out.items c.as_slice-in-If.result.now last.result at.is
    (c.as_slice-in-If.ensures.value ∙ c.in_ok-put_if-in-If.ensures ∙ ap (λ z. z ++ row_text (r.If (term at.condition))) c.in_ok-row.ensures.items)
    first.ensures.text first.ensures.next c.as_slice-in-If-2.ensures inner.ensures last.ensures.text last.ensures.next

pub put_one-returns-in-Repeat : goal.put_one-returns-in-Repeat
put_one-returns-in-Repeat t c =
    let at = c.in-Repeat in
    let first = c.in_ok-after-in-Repeat in
    let inner = c.in_ok-after-in-Repeat-2 in
    let last = c.put_line-in-Repeat-2 in
    repeat_ends c.args.stmt.now at.line at.count at.part c.as_slice-in-Repeat-2.result.now at.end c.args.next first.after inner.after c.args.out.now.items c.put_line-in-Repeat.new.out.items c.put_all-in-Repeat.new.out.items last.new.out.items c.as_slice-in-Repeat.result.now last.result at.is
    (c.as_slice-in-Repeat.ensures.value ∙ c.in_ok-put_repeat-in-Repeat.ensures ∙ ap (λ z. z ++ row_text (r.Repeat (term at.count))) c.in_ok-row.ensures.items)
    first.ensures.text first.ensures.next c.as_slice-in-Repeat-2.ensures inner.ensures last.ensures.text last.ensures.next

pub put_one-returns-in-IfElse : goal.put_one-returns-in-IfElse
put_one-returns-in-IfElse t c =
    let at = c.in-IfElse in
    let one = c.in_ok-after-in-IfElse in
    let two = c.in_ok-after-in-IfElse-2 in
    let three = c.in_ok-after-in-IfElse-3 in
    let four = c.in_ok-after-in-IfElse-4 in
    let last = c.put_line-in-IfElse-3 in
    if_else_ends c.args.stmt.now at.line at.condition at.part c.as_slice-in-IfElse-2.result.now at.middle at.other c.as_slice-in-IfElse-3.result.now at.end c.args.next one.after two.after three.after four.after
    c.args.out.now.items c.put_line-in-IfElse.new.out.items c.put_all-in-IfElse.new.out.items c.put_line-in-IfElse-2.new.out.items c.put_all-in-IfElse-2.new.out.items last.new.out.items c.as_slice-in-IfElse.result.now last.result at.is
    (c.as_slice-in-IfElse.ensures.value ∙ c.in_ok-put_if-in-IfElse.ensures ∙ ap (λ z. z ++ row_text (r.If (term at.condition))) c.in_ok-row.ensures.items)
    one.ensures.text one.ensures.next c.as_slice-in-IfElse-2.ensures two.ensures three.ensures.text three.ensures.next c.as_slice-in-IfElse-3.ensures four.ensures last.ensures.text last.ensures.next
