use Rattle.forward_copy.proofs.Names.{reverse, take, AreFirm}
use Rattle.std.specs.FinMap as finite
use Rattle.forward_copy.proofs.firms.firms_of.Given as goal

-- those of the log so far
abbrev pub invariant-loop-index : goal.invariant-loop-index
invariant-loop-index l = AreFirm (λ s. finite.get l.settles s) l.mark (reverse (take l.index l.log)) l.firms
