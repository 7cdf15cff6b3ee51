use Rattle.version_store.proofs.Names.{◌≡◌, ◌≤◌, IsTrue, false, length, NoMore}
use Rattle.version_store.proofs.FetchLemmas.{Looking}
use Rattle.version_store.proofs.fetches.find.Given as goal

abbrev pub invariant-loop-page : goal.invariant-loop-page
invariant-loop-page g l = record {
  size : g.M.Medium.page_count l.medium ≡ g.M.Medium.page_count l.fn.medium;
  open_now : g.M.Medium.is_failed l.medium ≡ false;
  later : g.M.Medium.faults l.fn.medium ≤ g.M.Medium.faults l.medium;
  low : l.page ≤ l.pages;
  reads : IsTrue g.M.Medium.tells → g.M.Medium.reads l.medium ≡ g.M.Medium.reads l.fn.medium;
  crash : IsTrue g.M.Medium.tells → NoMore (g.M.Medium.may_leave l.fn.medium) (g.M.Medium.may_leave l.medium);
  stages : IsTrue g.M.Medium.tells → g.M.Medium.stages l.medium ≡ g.M.Medium.stages l.fn.medium;
  looking : Looking (IsTrue g.M.Medium.tells × (length (g.M.Medium.reads l.fn.medium) ≡ l.pages)) (g.M.Medium.reads l.fn.medium) (g.M.Medium.last_page l.medium) l.place l.page l.pieces.items;
}
