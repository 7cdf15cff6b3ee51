use Rattle.trace_logs.proofs.Names.{◌≡◌, take, acts_of}
use Rattle.trace_logs.proofs.replays.acts_of.Given as goal

-- those so far
abbrev pub invariant-loop-act : goal.invariant-loop-act
invariant-loop-act l = l.own.items ≡ acts_of l.node.number (take l.act-index l.acts)
