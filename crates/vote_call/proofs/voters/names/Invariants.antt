use Rattle.std.proofs.Common.{◌≡◌, take}
use Rattle.vote_run.specs.Flagged.{names_of}
use Rattle.vote_call.proofs.voters.names.Given as goal

-- those so far
abbrev pub invariant-loop-one : goal.invariant-loop-one
invariant-loop-one l = l.names.items ≡ names_of (take l.one-index l.opened)
