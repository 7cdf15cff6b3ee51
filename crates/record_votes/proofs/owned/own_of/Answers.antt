use Rattle.record_votes.proofs.BookLemmas.{own-next}
use Rattle.record_votes.proofs.owned.own_of.Goals as goal

pub loop-effect-preserved : goal.loop-effect-preserved
loop-effect-preserved c =
    own-next c.args.effects.now c.loop-effect.effect-index c.effect-item.result c.loop-effect.owned.items c.push_own.new.owned.items c.loop-effect-test.true c.effect-item.is
    c.loop-effect.invariant c.in_ok-push_own.ensures
