use Rattle.std.proofs.Common.{◌≡◌, ◌≤◌, IsTrue, false}
use Rattle.folder_reader.specs.Strips.{gated_below, spoiled_below}
use Rattle.folder_reader.proofs.readings.strip_of.Given as goal

-- the pages so far are told
abbrev pub invariant-loop-page : goal.invariant-loop-page
invariant-loop-page g l = record {
  open_now : g.M.Medium.is_failed l.medium ≡ false;
  size : g.M.Medium.page_count l.medium ≡ g.M.Medium.page_count l.fn.medium;
  reads : IsTrue g.M.Medium.tells → g.M.Medium.reads l.medium ≡ g.M.Medium.reads l.fn.medium;
  later : g.M.Medium.faults l.fn.medium ≤ g.M.Medium.faults l.medium;
  few : l.strip.gated ≤ l.page;
  gated : IsTrue g.M.Medium.tells → l.strip.gated ≡ gated_below (g.M.Medium.reads l.fn.medium) l.page;
  spoiled : IsTrue g.M.Medium.tells → l.strip.spoiled.items ≡ spoiled_below (g.M.Medium.reads l.fn.medium) l.page;
}
