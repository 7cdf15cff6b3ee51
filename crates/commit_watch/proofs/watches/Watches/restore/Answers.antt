use Rattle.commit_watch.proofs.ListLemmas.{rising-put-in}
use Rattle.commit_watch.proofs.watches.Watches.restore.Goals as goal

pub invariant_of-self-2 : goal.invariant_of-self-2
invariant_of-self-2 g c = (c.self.invariant.0, rising-put-in _ c.self.inside.moved.items _ c.put.new.moved.items c.put.ensures.items c.reserve.ensures.items c.self.invariant.1)
