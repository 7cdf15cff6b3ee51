use Rattle.vote_call.proofs.Names.{◌≡◌, drop, down_cause}
use Rattle.vote_call.proofs.tellings.cause_of.Given as goal

-- none of those so far is the node's
abbrev pub invariant-loop-entry : goal.invariant-loop-entry
invariant-loop-entry l = down_cause l.node l.entries ≡ down_cause l.node (drop l.entry-index l.entries)
