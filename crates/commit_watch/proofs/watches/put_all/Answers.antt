use Rattle.std.proofs.Common.{ap, sym, ◌∙◌, refl, length, arith}
use Rattle.commit_watch.proofs.ListLemmas.{all-step, all-done, rising-put-in}
use Rattle.commit_watch.proofs.ChangeLemmas.{none-there}
use Rattle.commit_watch.proofs.watches.put_all.Goals as goal

pub loop-change-preserved : goal.loop-change-preserved
loop-change-preserved g c =
    let ws = c.loop-change.moved.items in
    let before = c.loop-change.invariant in
    record {
      left = all-step c.loop-change.changes.items c.pop_front.new.self.items ws c.put.new.moved.items _ c.in-Some.change c.in-Some.ensures.items c.put.ensures.items before.left;
      rising = rising-put-in c.in-Some.change ws ws c.put.new.moved.items c.put.ensures.items refl before.rising;
      room = let e = ap length c.in-Some.ensures.items in omega (arith, e, c.put.ensures.grown, c.put.ensures.capacity, before.room);
    }

pub returns : goal.returns
returns g c = all-done c.loop-change.changes.items c.loop-change.moved.items _ (none-there c.loop-change.changes.items (sym c.loop-change.changes.ok.0 ∙ c.in_default.ensures.cases.0)) c.loop-change.invariant.left
