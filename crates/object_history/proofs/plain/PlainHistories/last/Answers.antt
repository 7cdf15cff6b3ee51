use Rattle.object_history.proofs.Names.{sym, ap, ◌∙◌, option_copied}
use Rattle.object_history.proofs.LookLemmas.{seen-none, seen-by, end-by}
use Rattle.object_history.proofs.plain.PlainHistories.last.Goals as goal

pub returns-in_err-get-clause-seen : goal.returns-in_err-get-clause-seen
returns-in_err-get-clause-seen c =
    let i = c.self.inside in
    seen-none i.marks.items c.args.self.now i.settles i.tracks c.args.object c.args.end.now (option_copied c.from_residual.result) c.self.invariant.kept c.self.view_is (ap option_copied c.from_residual.ensures) (sym (ap option_copied c.in_err-get.was) ∙ c.get.ensures)

pub returns-clause-seen : goal.returns-clause-seen
returns-clause-seen c =
    let i = c.self.inside in
    seen-by i.marks.items c.args.self.now i.settles i.tracks c.args.object c.args.end.now c.in_ok-get.field-0.now (option_copied c.last.result) c.self.invariant.kept c.self.view_is (sym (ap option_copied c.in_ok-get.was) ∙ c.get.ensures) c.last.ensures

pub returns-clause-end : goal.returns-clause-end
returns-clause-end c =
    let i = c.self.inside in
    end-by i.marks.items c.args.self.now i.settles i.tracks c.args.object c.args.end.now c.in_ok-get.field-0.now (option_copied c.last.result) c.self.invariant.kept c.self.view_is (sym (ap option_copied c.in_ok-get.was) ∙ c.get.ensures) c.last.ensures
