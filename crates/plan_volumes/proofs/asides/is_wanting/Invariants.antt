use Rattle.plan_volumes.proofs.Names.{Every, IsWanting, take}
use Rattle.plan_volumes.proofs.asides.is_wanting.Given as goal

-- memory was there for those so far
abbrev pub invariant-loop-opening : goal.invariant-loop-opening
invariant-loop-opening g l = Every (λ o. IsWanting o → ⊥) (take l.opening-index l.openings)
