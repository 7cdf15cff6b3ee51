use Rattle.archive_store.proofs.Names.{◌≡◌, reverse, take, first_among}
use Rattle.std.specs.FinMap as finite
use Rattle.archive_store.proofs.opens.first_among.Given as goal

-- the first so far
abbrev pub invariant-loop-mark : goal.invariant-loop-mark
invariant-loop-mark l = l.first ≡ first_among (λ p. finite.get l.settles p) l.at (reverse (take l.mark-index l.marks))
