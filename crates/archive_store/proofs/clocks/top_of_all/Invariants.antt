use Rattle.std.specs.Prelude.{◌≡◌, ◌≤◌, max, drop}
unfoldable use Rattle.archive_store.specs.Clocks.{top_of_all}
use Rattle.archive_store.proofs.clocks.top_of_all.Given as goal

-- the greatest so far, with those that are left
abbrev pub invariant-loop-archive : goal.invariant-loop-archive
invariant-loop-archive l = record {
  clock : max l.top (top_of_all (drop l.archive-index l.known)) ≡ top_of_all l.known;
  most : l.top ≤ 1099511627775;
}
