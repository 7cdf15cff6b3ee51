-- What a visit or a turn leaves of a node's entries.
use Rattle.std.specs.Prelude.{◌≡◌, false, List, ◌∷◌, ◌++◌}
use Rattle.pseudo_time.specs.declared.nodes.NodeId.{NodeId}
use Rattle.world_core.specs.Legal.{HasGone, is_behind}
use Rattle.wire_lock.specs.Sights.{Sight, world_at}

-- nothing is lost
abbrev pub Adds : {E : Type 0} → List E → List E → Type 0
Adds old new = (more : List _) × (new ≡ old ++ more)

-- there is more
abbrev pub Grew : {E : Type 0} → List E → List E → Type 0
Grew old new = (e : _) × (rest : List _) × (new ≡ old ++ e ∷ rest)

-- No entry was added, and the node has nothing to do but to take copies: none was due.
pub record IsQuiet (n : NodeId) (old new : Sight) : Type 0 where
  pub same : new.own ≡ old.own
  pub heard : is_behind (world_at new) n ≡ false
  pub gone : HasGone (world_at new) n
