-- How a run starts: its wire, its nodes, and the Downs of those that weren't opened.
use Rattle.std.specs.Prelude.{◌≡◌, ℕ, ◌^◌, ◌≤◌, List, [], ◌∷◌, map, Option, Some, All}
use Rattle.pseudo_time.specs.declared.nodes.NodeId.{NodeId}
use Rattle.stream_port.specs.declared.fates.Asked.{Asked}
use Rattle.plan_form.specs.declared.plans.Plan.{Plan}
use Rattle.atomic_table.specs.declared.shared.Seat.{Seat}
use Rattle.seat_lock.specs.declared.views.View.{View}
use Rattle.seat_lock.specs.declared.views.Founding.{Founding}
use Rattle.seat_lock.specs.declared.locks.LockTable.{LockTable}
use Rattle.seat_lock.specs.Words.{base_of, fresh, knows}
use Rattle.world_core.specs.declared.entries.Entry.{Entry}
use Rattle.world_core.specs.declared.entries.Entry.TheVariants.{Down}
use Rattle.world_core.specs.declared.traces.Opened.{Opened}
use Rattle.world_core.specs.Walks.{opened_log}
use Rattle.node_rounds.specs.Wires.{Origin, WireParts}
use Rattle.node_rounds.specs.Boards.{owner_for}
use Rattle.node_rounds.specs.Sights.{IsWirePass, Sight}
use Rattle.run_media.specs.declared.openings.Opening.{Opening}
use Rattle.run_media.specs.declared.openings.Opening.TheVariants.{Open, Shut, Wanting}
use Rattle.run_media.specs.Openings.{opened_from, log_in}

module _ {M : Type 0} {g : _} where
  -- The wire begins a run of the plan over what was opened, with these fates and this clock.
  pub record IsSetUp (plan : Plan) (os : List (Opening M g)) (asked : List Asked) (answers : Option (List ℕ)) (o : Origin) : Type 0 where
    pub run : o.run ≡ plan.run
    pub acts : o.acts ≡ plan.acts
    pub opened : o.opened ≡ opened_from plan 0 os
    pub start : o.start ≤ 2 ^ 62
    pub asked_is : o.asked ≡ asked
    pub answers_are : o.answers ≡ answers

  -- the Down of a node that can't be opened
  abbrev pub downs_of : NodeId → Opening M g → List Entry
  downs_of n (Open store effects) = []
  downs_of n (Shut medium cause) = Down n cause ∷ []
  downs_of n (Wanting medium) = []

  -- the node's pass has seen nothing, and the node is opened with the log of its opening
  pub record IsUnseen (w : WireParts) (n : NodeId) (o : Opening M g) (pass : Seat WireParts (View WireParts Entry)) : Type 0 where
    pub unseen : knows pass ≡ fresh w (owner_for n)
    pub opened : opened_log w.origin.opened n ≡ Some (log_in o)

  -- of the node there is its Down, if it can't be opened, and nothing else
  pub record HasFallen (w : WireParts) (n : NodeId) (o : Opening M g) (pass : Seat WireParts (View WireParts Entry)) : Type 0 where
    pub base : (knows pass).base ≡ Some w
    pub owner : (knows pass).owner ≡ owner_for n
    pub own : (knows pass).own ≡ downs_of n o

-- what the new passes of these nodes know
abbrev pub fresh_for : WireParts → List Opened → List Sight
fresh_for w opened = map (λ (o : Opened). fresh w (owner_for o.node)) opened

module _ {Q A : Type 0} where
  -- The wire under this lock begins at this moment. Each node that was opened has a pass, and the conductor one, which have seen nothing.
  pub record HasPasses (lock : LockTable WireParts (View WireParts Entry) (Founding WireParts) Q A) (start : ℕ) (passes : List (Seat WireParts (View WireParts Entry))) (conductor : Seat WireParts (View WireParts Entry)) : Type 0 where
    pub starts : start ≡ (base_of lock).origin.start
    pub passes_fit : All (IsWirePass lock) passes
    pub unseen : map knows passes ≡ fresh_for (base_of lock) (base_of lock).origin.opened
    pub conducts : IsWirePass lock conductor
    pub conductor_unseen : knows conductor ≡ fresh (base_of lock) 0
