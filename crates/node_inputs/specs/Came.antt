-- What taking came to, and what it leaves.
use Rattle.std.specs.Prelude.{◌≡◌, Bool, true, false}
use Rattle.pseudo_time.specs.declared.nodes.NodeId.{NodeId}
use Rattle.world_core.specs.Legal.{is_behind}
use Rattle.wire_lock.specs.Sights.{Sight, world_at}
use Rattle.node_inputs.specs.declared.inputs.Came.{Came}
use Rattle.node_inputs.specs.declared.inputs.Came.TheVariants.{Behind, Nothing, Arrived}
use Rattle.node_inputs.specs.Entries.{Grew}

abbrev pub arrived : Came → Bool
arrived Behind = false
arrived Nothing = false
arrived Arrived = true

abbrev pub Took : NodeId → Sight → Sight → Came → Type 0
Took n old new Behind = (new.own ≡ old.own) × (is_behind (world_at new) n ≡ true)
Took n old new Nothing = (new.own ≡ old.own) × (is_behind (world_at new) n ≡ false)
Took n old new Arrived = Grew old.own new.own
