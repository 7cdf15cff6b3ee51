use Rattle.object_history.proofs.Names.{reverse, sym, ap, rising}
use Rattle.object_history.proofs.versions.Track.new.Goals as goal

pub invariant_of-result : goal.invariant_of-result
unfolding rising
invariant_of-result c = sym (ap (λ xs. rising (reverse xs)) c.new.ensures.items)
