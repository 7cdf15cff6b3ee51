use Rattle.commit_watch.proofs.ListLemmas.{rising-put-all}
use Rattle.commit_watch.proofs.watches.Watches.advance.Goals as goal

pub invariant_of-self-2 : goal.invariant_of-self-2
invariant_of-self-2 g c = (c.self.invariant.0, rising-put-all _ c.self.inside.moved.items _ c.put_all.new.moved.items c.put_all.ensures c.reserve.ensures.items c.self.invariant.1)
