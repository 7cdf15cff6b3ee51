use Rattle.archive_store.proofs.Names.{sym, subst, take, firsts, met_after, Meets}
use Rattle.archive_store.proofs.JoinLemmas.{append-none, firsts-step, met-step, take-end}
use Rattle.archive_store.proofs.joins.add_firsts.Goals as goal

pub loop-mark-init : goal.loop-mark-init
unfolding firsts met_after
loop-mark-init c = λ m h. (sym (append-none c.args.marks.now.items), h)

pub loop-mark-preserved : goal.loop-mark-preserved
loop-mark-preserved c = λ m h.
    let floor = c.args.floor.now in
    let log = c.args.log.now in
    let i = c.loop-mark.mark-index in
    let f = c.mark-item.result in
    let before = met_after floor m (take i log) in
    let now = c.loop-mark.invariant m h in (
      firsts-step floor m log i f c.args.marks.now.items c.loop-mark.marks.items c.add_new.new.marks.items c.loop-mark-test.true c.mark-item.is now.0 (c.in_ok-add_new.ensures.marks before now.1),
      subst (λ z. Meets c.add_new.new.met z) (met-step floor m log i f c.loop-mark-test.true c.mark-item.is) (c.in_ok-add_new.ensures.met before now.1),
    )

pub returns-clause-met : goal.returns-clause-met
returns-clause-met c = λ m h. subst (λ z. Meets c.loop-mark.met (met_after c.args.floor.now m z)) (take-end c.args.log.now c.loop-mark.mark-index c.loop-mark-test.false) (c.loop-mark.invariant m h).1
