use Rattle.std.proofs.Common.{sym, ◌∙◌}
use Rattle.repository_core.proofs.RowLemmas.{release-is, none-left, held-next, reread-next}
use Rattle.repository_core.proofs.works.Work.release.Goals as goal

pub loop-at-preserved : goal.loop-at-preserved
loop-at-preserved g c = record {
  agreed = λ pending a. c.in_ok-on_read.ensures.agreed pending (c.loop-at.invariant.agreed pending a);
  records = λ s. c.in_ok-on_read.ensures.records s ∙ c.loop-at.invariant.records s;
  since = c.in_ok-on_read.ensures.went.since;
  call = c.in_ok-on_read.ensures.went.call ∙ c.loop-at.invariant.call;
  log = (c.in_ok-on_read.ensures.log.0 ∙ c.loop-at.invariant.log.0, c.in_ok-on_read.ensures.log.1 ∙ c.loop-at.invariant.log.1);
  held = held-next c.deref-at-items.result.now c.loop-at.at-index c.loop-at-item.result c.loop-at-test.true c.loop-at-item.is c.loop-at.invariant.held;
  gives = λ tells pending a.
      reread-next c.deref-at-items.result.now c.loop-at.at-index c.loop-at-item.result c.loop-at.self.draft c.on_read.new.self.draft c.loop-at-test.true c.loop-at-item.is
      (c.in_ok-on_read.ensures.gives tells pending (c.loop-at.invariant.agreed pending a))
      ∙ c.loop-at.invariant.gives tells pending a;
}

pub returns-clause-gives : goal.returns-clause-gives
returns-clause-gives g c = λ tells pending a.
    let h = c.args.self.now.draft in
    sym (none-left c.loop-at.at-index c.deref-at-items.result.now c.loop-at.self.draft c.loop-at-test.false)
    ∙ c.loop-at.invariant.gives tells pending a
    ∙ release-is c.args.stamp h c.release.new.self c.deref-at-items.result.now (c.deref-at-items.ensures.value ∙ c.in_ok-released.ensures.released) c.in_ok-released.ensures.rest
