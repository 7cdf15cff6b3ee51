use Rattle.version_store.proofs.Names.{is_blank, Log, StaysClean, Laid, PagesFit, IsAtRest, body_of, bytes_of, begun, scan, ◌≡◌, ◌+◌, ◌≤◌, List, IsTrue, false, map, drop, take, true, list_all}
use Rattle.version_store.proofs.GrownLemmas.{Grown}
use Rattle.version_store.proofs.writes.write_pages.Given as goal

abbrev pub invariant-loop-body : goal.invariant-loop-body
invariant-loop-body g l = record {
  at : l.page ≡ l.first + l.body-index;
  size : g.M.Medium.page_count l.medium ≡ g.M.Medium.page_count l.fn.medium;
  last : g.M.Medium.last_page l.medium ≡ g.M.Medium.last_page l.fn.medium;
  open_now : g.M.Medium.is_failed l.medium ≡ false;
  later : g.M.Medium.faults l.fn.medium ≤ g.M.Medium.faults l.medium;
  blank : IsTrue g.M.Medium.tells → list_all is_blank (drop l.page (g.M.Medium.reads l.medium)) ≡ true;
  clean : IsTrue g.M.Medium.tells → StaysClean (g.M.Medium.reads l.fn.medium) (g.M.Medium.reads l.medium);
  content : IsTrue g.M.Medium.tells → (log : Log) (pages : List Laid) → IsAtRest log l.first (g.M.Medium.reads l.fn.medium) (g.M.Medium.may_leave l.fn.medium) → PagesFit (scan begun 0 (take l.first (g.M.Medium.reads l.fn.medium))) log l.first pages → bytes_of l.bodies ≡ map body_of pages
      → Grown g.M.Medium.stages g.M.Medium.reads g.M.Medium.may_leave log l.first pages l.fn.medium l.medium l.body-index;
}
