use Rattle.page_gate.proofs.Names.{◌≡◌, ◌&&◌, ◌==◌, drop, is_blank}
use Rattle.page_gate.proofs.pages.all_zero.Given as goal

-- all are 0 just where the greatest so far is 0 and those left are
abbrev pub invariant-loop-b : goal.invariant-loop-b
invariant-loop-b l = is_blank l.bytes ≡ ((l.most == 0) && is_blank (drop l.b-index l.bytes))
