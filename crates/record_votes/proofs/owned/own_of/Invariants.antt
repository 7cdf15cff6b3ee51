use Rattle.record_votes.proofs.Names.{◌≡◌, take, own}
use Rattle.record_votes.proofs.owned.own_of.Given as goal

abbrev pub invariant-loop-effect : goal.invariant-loop-effect
invariant-loop-effect l = l.owned.items ≡ own (take l.effect-index l.effects)
