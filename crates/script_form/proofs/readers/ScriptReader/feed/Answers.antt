use Rattle.script_form.proofs.Names.{sym, subst, ◌∙◌, Err, FeedsLine}
use Rattle.script_form.proofs.FeedLemmas.{passed_feeds, no_row_feeds}
use Rattle.script_form.proofs.readers.ScriptReader.feed.Goals as goal

pub returns-then-is_blank : goal.returns-then-is_blank
returns-then-is_blank c before h = passed_feeds before c.args.line.now c.args.self c.passed.result h (sym c.is_blank.ensures ∙ c.if-is_blank.true) c.passed.ensures

pub returns-in-Ok : goal.returns-in-Ok
returns-in-Ok c before h = c.with_row.ensures before c.args.line.now h c.in-Ok.ensures.0 c.in-Ok.ensures.1

pub returns-in-Err : goal.returns-in-Err
returns-in-Err c before h =
    subst (λ z. FeedsLine c.args.self.greatest before c.args.line.now (Err z)) (sym c.row_fault.ensures)
    (no_row_feeds before c.args.line.now c.args.self c.in-Err.wrong h (sym c.is_blank.ensures ∙ c.if-is_blank.false) c.in-Err.ensures)
