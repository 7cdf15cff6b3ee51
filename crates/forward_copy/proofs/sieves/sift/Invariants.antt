use Rattle.forward_copy.proofs.Names.{◌≡◌, length, not, reverse, take, sifted}
use Rattle.forward_copy.specs.Firms as spec
use Rattle.forward_copy.proofs.sieves.sift.Given as goal

-- what was sifted of the log so far
abbrev pub invariant-loop-index : goal.invariant-loop-index
invariant-loop-index l = record {
  kept : l.kept.items ≡ reverse (sifted (λ k f. spec.stays_above l.firms l.mark (length k) f) (reverse (take l.index l.log)));
  dropped : l.dropped.items ≡ reverse (sifted (λ k f. not (spec.stays_above l.firms l.mark (length k) f)) (reverse (take l.index l.log)));
}
