use Rattle.wire_core.proofs.Names.{◌≡◌, take, names_of}
use Rattle.wire_core.proofs.stories.names_of.Given as goal

abbrev pub invariant-loop-one : goal.invariant-loop-one
invariant-loop-one l = l.names.items ≡ names_of (take l.one-index l.opened)
