use Rattle.object_history.proofs.Names.{Nothing, Mark, arith, sym, ap, ◌∙◌, ◌≡◌, option_copied, unwrap_or, slice_index_or}
use Rattle.object_history.proofs.LookLemmas.{value-at, value_found}
use Rattle.object_history.proofs.plain.PlainHistories.value_at.Goals as goal

pub returns-in_err-get : goal.returns-in_err-get
returns-in_err-get c =
    let i = c.self.inside in
    let found : (d : Mark) → unwrap_or (option_copied c.get.result) d ≡ slice_index_or i.marks.items c.args.mark d = λ d. c.get.ensures.lookup.4 (omega arith) d ∙ ap (λ xs. slice_index_or xs c.args.mark d) c.deref.ensures.value in
    ap (λ r. unwrap_or (option_copied r) Nothing) c.from_residual.ensures ∙ sym (ap (λ r. value_found (option_copied r)) c.in_err-get.was)
    ∙ value-at i.marks.items c.args.self.now c.args.mark (option_copied c.get.result) c.self.view_is found

pub returns : goal.returns
returns c =
    let i = c.self.inside in
    let found : (d : Mark) → unwrap_or (option_copied c.get.result) d ≡ slice_index_or i.marks.items c.args.mark d = λ d. c.get.ensures.lookup.4 (omega arith) d ∙ ap (λ xs. slice_index_or xs c.args.mark d) c.deref.ensures.value in
    c.value_put.ensures ∙ sym (ap (λ r. value_found (option_copied r)) c.in_ok-get.was) ∙ value-at i.marks.items c.args.self.now c.args.mark (option_copied c.get.result) c.self.view_is found
