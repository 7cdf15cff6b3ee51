use Rattle.trace_report.proofs.Names.{sym, ap, ◌∙◌, said_at}
use Rattle.trace_report.proofs.DecidedLemmas.{committed-home, committed-away}
use Rattle.trace_report.proofs.decided.is_committed.Goals as goal

pub returns-in-Some : goal.returns-in-Some
returns-in-Some c = λ k d.
    committed-home k c.args.firsts.now d c.args.stamp c.in-Some.home.now c.has_commit.result (ap (said_at c.args.firsts.now) (sym c.home.ensures) ∙ sym c.in-Some.ensures) c.has_commit.ensures

pub returns-in-None : goal.returns-in-None
returns-in-None c = λ k d. committed-away k c.args.firsts.now d c.args.stamp c.is_learned.result (ap (said_at c.args.firsts.now) (sym c.home.ensures) ∙ sym c.in-None.ensures) c.is_learned.ensures
