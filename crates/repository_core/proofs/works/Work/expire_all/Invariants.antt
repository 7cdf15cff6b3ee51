use Rattle.repository_core.proofs.Names.{◌≡◌, drop, IsTrue, Every, AgreeBut, AreSince, AreOfOneCall, now, HasSameLog, expired}
use Rattle.repository_core.proofs.HearLemmas.{IsPending, Apart}
use Rattle.repository_core.proofs.works.Work.expire_all.Given as goal

-- those that are left give what all give from before
abbrev pub invariant-loop-stamp : goal.invariant-loop-stamp
invariant-loop-stamp g l = record {
  agreed : AgreeBut g.H.Histories.content (drop l.stamp-index l.stamp-items) (now l.self.draft) l.self.books;
  pending : Every (IsPending l.moment (now l.self.draft)) (drop l.stamp-index l.stamp-items);
  apart : Apart (drop l.stamp-index l.stamp-items);
  since : AreSince g.H.Histories.content g.H.Histories.below g.H.Histories.faults g.H.Histories.damage l.self.books;
  call : AreOfOneCall l.fn.self.books l.self.books;
  log : HasSameLog l.fn.self.draft l.self.draft;
  gives : IsTrue g.H.Histories.tells → expired (drop l.stamp-index l.stamp-items) l.self.draft ≡ expired l.stamp-items l.fn.self.draft;
}
