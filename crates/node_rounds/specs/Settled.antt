-- Repositories that learn decisions, each by a list of its own.
use Rattle.std.specs.Prelude.{◌≡◌, Bool, true, false, List, [], ◌∷◌}
use Rattle.std.specs.declared.vec.Vec.{Vec}
use Rattle.std.specs.declared.alloc.Global.{Global}
use Rattle.pseudo_time.specs.Nodes.{is_broker}
use Rattle.medium_port.specs.declared.media.Medium.{Ghosts as Media}
use Rattle.pseudo_time.specs.StampParts.{StampParts}
use Rattle.broker_node.specs.Sights.{world_at}
use Rattle.broker_node.specs.TurnNodes.{NodeParts, sight}
use Rattle.repository_node.specs.Settles.{SettlesTo, Stand}

-- how an attempt was decided: true if it commits
abbrev pub Decided : Type 0
Decided = StampParts × Bool

module _ {M : Type 0} (w : Media M) where
  -- a broker stays as it was, and a repository has learned these decisions
  abbrev pub HasSettled : List Decided → NodeParts M → NodeParts M → Type 0
  HasSettled list old new = (is_broker old.node.kind ≡ true → new ≡ old) × (is_broker old.node.kind ≡ false → SettlesTo w list old new)

  -- so it is of each node, with the list in its place
  abbrev pub HaveSettled : List (NodeParts M) → List (Vec Decided Global) → List (NodeParts M) → Type 0
  HaveSettled [] [] [] = Unit {0}
  HaveSettled (n ∷ nodes) (list ∷ lists) (m ∷ after) = HasSettled list.items n m × HaveSettled nodes lists after
  HaveSettled _ _ _ = ⊥

-- these decisions stand in the world that the node has seen
abbrev pub AllStand : {M : Type 0} → NodeParts M → Vec Decided Global → Type 0
AllStand n list = Stand (world_at (sight n)) list.items
