use Rattle.run_media.proofs.Names.{◌≡◌, take, acts_of}
use Rattle.run_media.proofs.places.own_acts.Given as goal

-- those so far
abbrev pub invariant-loop-act : goal.invariant-loop-act
invariant-loop-act l = l.own.items ≡ acts_of l.number (take l.act-index l.acts)
