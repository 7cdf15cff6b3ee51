-- A run that can begin, and one whose wire is set up, before anything happens in it.
use Rattle.std.specs.Prelude.{◌≡◌, ℕ, List, length}
use Rattle.atomic_table.specs.declared.shared.Seat.{Seat}
use Rattle.seat_lock.specs.declared.views.View.{View}
use Rattle.seat_lock.specs.declared.views.Founding.{Founding}
use Rattle.seat_lock.specs.declared.locks.LockTable.{LockTable}
use Rattle.seat_lock.specs.Words.{base_of}
use Rattle.plan_form.specs.PlanTexts.{CanRun}
use Rattle.plan_form.specs.declared.plans.Plan.{Plan}
use Rattle.run_media.specs.Openings.{AreReady}
use Rattle.run_media.specs.Places.{node_count}
use Rattle.run_media.specs.declared.openings.Opening.{Opening}
use Rattle.run_starts.specs.Starts.{HasPasses, IsSetUp}
use Rattle.run_starts.specs.Wires.{WireParts}
use Rattle.world_core.specs.declared.entries.Entry.{Entry}
use Rattle.run_rounds.specs.Closings.{Pass}

module _ {M : Type 0} {g : _} where
  -- There is an opening for each node of the plan, and each of its logs lets the node go on in a run of it.
  pub record IsRunnable (plan : Plan) (os : List (Opening M g)) : Type 0 where
    pub of_language : CanRun plan
    pub all : length os ≡ node_count plan
    pub ready : AreReady plan 0 os

module _ {M : Type 0} {g : _} {Q A : Type 0} where
  -- The wire under this lock begins a run of the plan over what was opened, and its passes have seen nothing.
  pub record HasBegun (plan : Plan) (os : List (Opening M g)) (lock : LockTable WireParts (View WireParts Entry) (Founding WireParts) Q A) (start : ℕ) (passes : List Pass) (conductor : Pass) : Type 0 where
    pub set_up : IsSetUp plan os (base_of lock).origin.asked (base_of lock).origin.answers (base_of lock).origin
    pub has : HasPasses lock start passes conductor
