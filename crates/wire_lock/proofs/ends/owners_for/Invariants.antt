use Rattle.wire_lock.proofs.Names.{◌≡◌, map, take, owner_for}
use Rattle.world_core.specs.declared.traces.Opened.{Opened}
use Rattle.wire_lock.proofs.ends.owners_for.Given as goal

abbrev pub invariant-loop-one : goal.invariant-loop-one
invariant-loop-one l = l.owners.items ≡ map (λ (o : Opened). owner_for o.node) (take l.one-index l.opened)
