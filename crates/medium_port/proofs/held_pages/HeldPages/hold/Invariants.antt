use Rattle.medium_port.proofs.Names.{◌≡◌, ◌≤◌, ◌+◌, ◌-◌, length, with_blanks}
use Rattle.medium_port.proofs.held_pages.HeldPages.hold.Given as goal

-- blank pages are held besides, and nothing that is read changes
abbrev pub invariant-loop-self : goal.invariant-loop-self
invariant-loop-self l = record {
  count : l.self-inside.count ≡ l.initial.self-inside.count;
  items : with_blanks l.self-inside.count l.self-inside.front.items ≡ l.fn.self.items;
  more : l.fn.self.front ≤ length l.self-inside.front.items;
}

abbrev pub decreases-loop-self : goal.decreases-loop-self
decreases-loop-self l = l.page + 1 - length l.self-inside.front.items
