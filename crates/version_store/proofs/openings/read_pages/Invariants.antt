use Rattle.version_store.proofs.Names.{NoMore, AreEffects, HeldBelow, Reached, AreBelow, ArePlaces, ◌≡◌, ◌≤◌, IsTrue, false, length}
use Rattle.version_store.proofs.openings.read_pages.Given as goal

abbrev pub invariant-loop-page : goal.invariant-loop-page
invariant-loop-page g l = record {
  size : g.M.Medium.page_count l.medium ≡ g.M.Medium.page_count l.fn.medium;
  low : l.found.next ≤ l.page;
  places : ArePlaces l.found.heads;
  below : AreBelow l.pages l.found.heads;
  held : HeldBelow l.page l.found.held;
  ranges : AreEffects l.found.effects.items;
  open_now : g.M.Medium.is_failed l.medium ≡ false;
  later : g.M.Medium.faults l.fn.medium ≤ g.M.Medium.faults l.medium;
  reads : IsTrue g.M.Medium.tells → g.M.Medium.reads l.medium ≡ g.M.Medium.reads l.fn.medium;
  crash : IsTrue g.M.Medium.tells → NoMore (g.M.Medium.may_leave l.fn.medium) (g.M.Medium.may_leave l.medium);
  stages : IsTrue g.M.Medium.tells → g.M.Medium.stages l.medium ≡ g.M.Medium.stages l.fn.medium;
  found : IsTrue g.M.Medium.tells → length (g.M.Medium.reads l.fn.medium) ≡ l.pages → Reached (g.M.Medium.reads l.fn.medium) l.page l.found.heads l.found.effects.items l.found.held l.found.next l.found.ended;
}
