use Rattle.std.specs.Prelude.{◌≡◌, ◌≤◌, max, drop}
unfoldable use Rattle.archive_store.specs.Clocks.{top_clock}
use Rattle.archive_store.proofs.clocks.top_clock.Given as goal

-- the greatest so far, with those that are left
abbrev pub invariant-loop-mark : goal.invariant-loop-mark
invariant-loop-mark l = record {
  clock : max l.top (top_clock (drop l.mark-index l.marks)) ≡ top_clock l.marks;
  most : l.top ≤ 1099511627775;
}
