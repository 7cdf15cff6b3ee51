-- What comes of a batch of a session.
use Rattle.std.specs.Prelude.{◌≡◌, ◌⊎◌, ℕ, List}
use Rattle.medium_port.specs.declared.shelves.Shelf.{Ghosts}
use Rattle.plan_form.specs.declared.plans.Plan.{Plan}
use Rattle.plan_form.specs.declared.plan_faults.PlanKind.{PlanKind}
use Rattle.plan_form.specs.PlanFaults.{IsPlanFault}
use Rattle.plan_form.specs.Plans.{IsPlan}
use Rattle.session_form.specs.Sessions.{line_of}
use Rattle.command_words.specs.declared.commands.Options.{Options}
use Rattle.plan_volumes.specs.KeptMedium.{Kept}
use Rattle.plan_volumes.specs.Media.{Media}
use Rattle.plan_volumes.specs.Shelves.{shelf_sight}
use Rattle.world_core.specs.declared.traces.Trace.{Trace}
use Rattle.run_command.specs.Written.{EndsIfAny}
use Rattle.session_command.specs.Above.{RunsAbove}
use Rattle.session_command.specs.Lines.{fault_line}
use Rattle.session_command.specs.Standings.{ArePutBack, IsStill, Standing, account_over, sunk}

module _ {H M : Type 0} (g : Ghosts H M) (w : Media M) (o : Options) where
  -- The plan was run above its nodes' logs over the media of the shelf, and these were put back; or memory ran out for that.
  pub record RanAbove (draft : Plan) (status : ℕ) (s t : Standing H) : Type 0 where
    pub middle : H
    pub kept : List (Kept M)
    pub trace : Trace
    pub came_to : ℕ
    pub ran : RunsAbove w (shelf_sight g s.shelf) (shelf_sight g middle) kept draft o (account_over trace s t) (sunk s t) came_to
    pub back : ((status ≡ came_to) × ArePutBack g w kept middle t.shelf) ⊎ (status ≡ 7)

  -- What came of a batch's text as a plan, when so many lines of the session were before it: it is a plan and was run; or it is none
  -- and the sink got the line that says so; or memory ran out for reading it.
  abbrev pub Judged : (text : List ℕ) → (before status : ℕ) → Standing H → Standing H → Type 0
  Judged text before status s t =
      ((draft : Plan) × IsPlan text draft × RanAbove draft status s t)
      ⊎ (((at : ℕ) × (what : PlanKind) × IsPlanFault text at what × IsStill s t × EndsIfAny status (sunk s t) 2 (fault_line (line_of before at) what))
      ⊎ ((status ≡ 7) × (t ≡ s)))
