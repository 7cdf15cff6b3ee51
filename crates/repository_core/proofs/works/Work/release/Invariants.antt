use Rattle.repository_core.proofs.Names.{◌≡◌, List, drop, IsTrue, StampParts, Decision, AgreeBut, AreSince, AreOfOneCall, HasSameRecords, now, HasSameLog, AreHeld, reread}
use Rattle.repository_core.proofs.works.Work.release.Given as goal

-- those that are left give what all give from before
abbrev pub invariant-loop-at : goal.invariant-loop-at
invariant-loop-at g l = record {
  agreed : (pending : List (StampParts × Decision)) → AgreeBut g.H.Histories.content pending (now l.fn.self.draft) l.fn.self.books → AgreeBut g.H.Histories.content pending (now l.self.draft) l.self.books;
  records : HasSameRecords (now l.fn.self.draft) (now l.self.draft);
  since : AreSince g.H.Histories.content g.H.Histories.below g.H.Histories.faults g.H.Histories.damage l.self.books;
  call : AreOfOneCall l.fn.self.books l.self.books;
  log : HasSameLog l.fn.self.draft l.self.draft;
  held : AreHeld (drop l.at-index l.at-items);
  gives : IsTrue g.H.Histories.tells → (pending : List (StampParts × Decision)) → AgreeBut g.H.Histories.content pending (now l.fn.self.draft) l.fn.self.books
      → reread (drop l.at-index l.at-items) l.self.draft ≡ reread l.at-items l.initial.self.draft;
}
