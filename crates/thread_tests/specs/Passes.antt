-- What tests know of a pass.
use Rattle.std.specs.Prelude.{◌≡◌, Bool, true, false, List, [], ◌∷◌}
use Rattle.pseudo_time.specs.declared.nodes.NodeId.{NodeId}
use Rattle.pseudo_time.specs.Nodes.{repository, broker}
use Rattle.atomic_table.specs.declared.shared.Seat.{Seat}
use Rattle.seat_lock.specs.declared.views.View.{View}
use Rattle.seat_lock.specs.declared.views.Founding.{Founding}
use Rattle.seat_lock.specs.declared.locks.LockTable.{LockTable}
use Rattle.seat_lock.specs.Words.{knows}
use Rattle.world_core.specs.declared.entries.Entry.{Entry}
use Rattle.world_core.specs.declared.traces.Opened.{Opened}
use Rattle.world_core.specs.Walks.{Flags}
use Rattle.world_core.specs.Legal.{is_behind}
use Rattle.wire_core.specs.Wires.{WireParts}
use Rattle.wire_core.specs.declared.takens.Taken.{Taken}
use Rattle.wire_core.specs.declared.takens.Taken.TheVariants.{Behind, Nothing, Arrived}
use Rattle.wire_lock.specs.Sights.{IsWirePass, IsOf, flags_at, world_at}

-- one repository and one broker, with empty logs
abbrev pub blank_two : List Opened
blank_two = record { node = repository 1; effects = [] } ∷ record { node = broker 1; effects = [] } ∷ []

-- the repository or the broker with number 1
abbrev pub IsOne : NodeId → Type 0
IsOne n = n.number ≡ 1

-- a node that is up, has gone or not, and has something to close or not
abbrev pub up_flags : Bool → Bool → Flags
up_flags gone due = record { known = true; up = true; gone = gone; due = due }

module _ {Q A : Type 0} where
  -- The pass is this node's own. The node is up, has gone or not, and has something to close or not.
  pub record IsAt (lock : LockTable WireParts (View WireParts Entry) (Founding WireParts) Q A) (n : NodeId) (gone due : Bool) (pass : Seat WireParts (View WireParts Entry)) : Type 0 where
    pub of_lock : IsWirePass lock pass
    pub own : IsOf n (knows pass)
    pub flags : flags_at (knows pass) n ≡ up_flags gone due

  -- where the node is after this answer to its taking
  abbrev pub AfterTaking : LockTable WireParts (View WireParts Entry) (Founding WireParts) Q A → NodeId → Bool → Seat WireParts (View WireParts Entry) → Taken → Type 0
  AfterTaking lock n gone pass Behind = IsAt lock n gone false pass × (is_behind (world_at (knows pass)) n ≡ true)
  AfterTaking lock n gone pass Nothing = IsAt lock n gone false pass
  AfterTaking lock n gone pass (Arrived a) = IsAt lock n gone true pass
