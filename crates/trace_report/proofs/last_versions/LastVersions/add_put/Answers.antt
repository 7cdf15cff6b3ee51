use Rattle.trace_report.proofs.Names.{ap, refl, sym, ◌∙◌, committed}
use Rattle.trace_report.proofs.FinalLemmas.{put-below, put-in, put-out}
use Rattle.trace_report.proofs.last_versions.LastVersions.add_put.Goals as goal

pub returns-then-not-is_committed : goal.returns-then-not-is_committed
returns-then-not-is_committed c = λ k m d h.
    put-out k m c.args.self.now c.args.object c.args.start c.args.value.now (ap (committed k) (sym c.stamp.ensures.value) ∙ sym (c.is_committed.ensures k d) ∙ c.if-not-is_committed.true) h

pub returns-in_ok-insert : goal.returns-in_ok-insert
returns-in_ok-insert c = λ k m d h.
    put-in k m c.args.self.now (record { versions = c.insert.new.self }) c.args.object c.args.start c.args.value.now (record { start = c.args.start; value = c.in_ok-value.value })
    (ap (committed k) (sym c.stamp.ensures.value) ∙ sym (c.is_committed.ensures k d) ∙ c.if-not-is_committed.false) (sym c.is_above.ensures ∙ c.if-not-is_above.true) refl c.in_ok-value.ensures
    c.in_ok-insert.ensures.updates.0 h

pub returns-else-not-is_above : goal.returns-else-not-is_above
returns-else-not-is_above c = λ k m d h. put-below k m c.args.self.now c.args.object c.args.start c.args.value.now (sym c.is_above.ensures ∙ c.if-not-is_above.false) h
