use Rattle.repository_core.proofs.Names.{◌≡◌, ◌+◌, List, drop, refl, subst, sym, ap, ◌∙◌, StampParts, Decision, Every, settle_of, AgreeBut, now, expired, expiries}
use Rattle.repository_core.proofs.BookLemmas.{since_same}
use Rattle.repository_core.proofs.HearLemmas.{IsPending, Apart, expiries-pending, expiries-apart, still-pending, next-is, listed-apart, pending-unknown, pending-unsettled}
use Rattle.repository_core.proofs.works.Work.expire_all.Goals as goal

pub loop-stamp-init : goal.loop-stamp-init
loop-stamp-init g c =
    let h = c.args.self.now.draft in let b = c.args.self.now.books in let e = c.in_ok-due.ensures in let value = c.deref-stamp-items.ensures.value in
    let due : c.deref-stamp-items.result.now ≡ expiries c.args.moment (now h) = value ∙ e.due (now h) c.requires.agreed in
    record {
      agreed = subst (λ (es : List (StampParts × Decision)). AgreeBut g.H.Histories.content es (now h) c.hear.new.self) (sym value) (e.agree (now h) c.requires.agreed);
      pending = subst (Every (IsPending c.args.moment (now h))) (sym due) (expiries-pending c.args.moment (now h));
      apart = subst Apart (sym due) (expiries-apart c.args.moment (now h));
      since = since_same g.H.Histories.content g.H.Histories.below g.H.Histories.faults g.H.Histories.damage b.first.value b.histories c.hear.new.self.first.value c.hear.new.self.histories
          e.histories.1 e.histories.0 c.requires.since;
      call = e.histories.1;
      log = (refl, refl);
      gives = λ tells. refl;
    }

pub expire-requires-clause-unsettled : goal.expire-requires-clause-unsettled
expire-requires-clause-unsettled g c =
    let l = now c.loop-stamp.self.draft in let x = c.loop-stamp-item.result in
    let next = next-is c.deref-stamp-items.result.now c.loop-stamp.stamp-index x c.loop-stamp-test.true c.loop-stamp-item.is in
    let pending = subst (Every (IsPending c.args.moment l)) next c.loop-stamp.invariant.pending in
    ap (λ m. settle_of m x.0) c.loop-stamp.invariant.agreed.marked ∙ pending-unsettled c.args.moment l x pending.0

pub loop-stamp-preserved : goal.loop-stamp-preserved
loop-stamp-preserved g c =
    let i = c.loop-stamp.invariant in let e = c.in_ok-expire.ensures in
    let h = c.loop-stamp.self.draft in let x = c.loop-stamp-item.result in let items = c.deref-stamp-items.result.now in
    let rest = drop (c.loop-stamp.stamp-index + 1) items in
    let next = next-is items c.loop-stamp.stamp-index x c.loop-stamp-test.true c.loop-stamp-item.is in
    let pending = subst (Every (IsPending c.args.moment (now h))) next i.pending in
    let apart = subst Apart next i.apart in
    let agreed = subst (λ (es : List (StampParts × Decision)). AgreeBut g.H.Histories.content es (now h) c.loop-stamp.self.books) next i.agreed in
    let unknown = pending-unknown c.args.moment (now h) x pending.0 in
    let once = listed-apart x.0 rest apart.0 in
    record {
      agreed = e.agreed rest unknown once agreed;
      pending = still-pending c.args.moment (now h) (now c.expire.new.self.draft) x rest e.records apart.0 pending.1;
      apart = apart.1;
      since = e.went.since;
      call = e.went.call ∙ i.call;
      log = (e.log.0 ∙ i.log.0, e.log.1 ∙ i.log.1);
      gives = λ tells. ap (λ z. expired rest z) (e.gives rest tells unknown once agreed) ∙ ap (λ es. expired es h) (sym next) ∙ i.gives tells;
    }
