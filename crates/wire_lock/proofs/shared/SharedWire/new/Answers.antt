use Rattle.wire_lock.proofs.SightLemmas.{owns-new}
use Rattle.wire_lock.proofs.shared.SharedWire.new.Goals as goal

pub returns-in-Ok-new-clause-passes : goal.returns-in-Ok-new-clause-passes
returns-in-Ok-new-clause-passes g c = let q = c.in-Ok-new.ensures.passes in λ k d lt. record { of_lock = q.0 k d lt; own = owns-new _ _ _ q.1 k d lt }
