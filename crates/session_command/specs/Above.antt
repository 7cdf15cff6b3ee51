-- What comes of a batch: its plan is run above all that its nodes' logs have.
use Rattle.std.specs.Prelude.{◌≡◌, ◌⊎◌, ℕ, List, [], ◌∷◌, map, Option}
use Rattle.std.specs.List.{AllZip}
use Rattle.plan_form.specs.declared.plans.Plan.{Plan}
use Rattle.session_form.specs.declared.heights.Heights.{Heights}
use Rattle.session_form.specs.Heights.{HasRoom, raised, with_log}
use Rattle.command_words.specs.declared.commands.Options.{Options}
use Rattle.plan_volumes.specs.KeptMedium.{Kept}
use Rattle.plan_volumes.specs.Media.{Media, IsLeftAlone}
use Rattle.plan_volumes.specs.Opening.{Opening}
use Rattle.plan_volumes.specs.Openings.{HasOpened, log_in}
use Rattle.plan_volumes.specs.Shelves.{ShelfSight}
use Rattle.plan_volumes.specs.Volumes.{HasVolumes, NodeVolumes, work_taken}
use Rattle.run_rounds.specs.Runs.{Account}
use Rattle.run_command.specs.Contract.{HasNoRun, RunsOver}
use Rattle.run_command.specs.Written.{Sinking, EndsIfAny}
use Rattle.run_command.specs.declared.reports.Wanted.TheVariants.{Report}
use Rattle.session_command.specs.Lines.{full_line}

module _ {M : Type 0} {w : Media M} where
  -- as far as these, and as the logs of the openings
  abbrev pub reached_from : Heights → List (Opening M w) → Heights
  reached_from h [] = h
  reached_from h (o ∷ openings) = reached_from (with_log h (log_in o)) openings

  abbrev pub reached : List (Opening M w) → Heights
  reached openings = reached_from (record { run = 0; clock = 0 }) openings

module _ {M : Type 0} (w : Media M) (old new : ShelfSight) (kept : List (Kept M)) (draft : Plan) where
  -- No run or no clock is left above the logs, and the sink got the line that says so, unless memory ran out for it. No run began, and the volumes are handed back as they were.
  pub record FindsNoRoom (volumes : List (NodeVolumes w)) (told : Account) (s : Sinking) (status : ℕ) : Type 0 where
    pub left : List (Option M)
    pub has : HasVolumes w old new draft volumes left kept
    pub untouched : AllZip (IsLeftAlone w) (map work_taken volumes) left
    pub no_run : HasNoRun told
    pub line : EndsIfAny status s 2 full_line

  -- The volumes were opened as these. Over them the plan of the batch, with its run and its clocks above their logs, was run, as `run` runs it; unless there is no room above.
  pub record RunsAbove (o : Options) (told : Account) (s : Sinking) (status : ℕ) : Type 0 where
    pub volumes : List (NodeVolumes w)
    pub openings : List (Opening M w)
    pub opened : AllZip (HasOpened w) (map work_taken volumes) openings
    pub came : (HasRoom (reached openings) × RunsOver w old new kept (raised (reached openings) draft) Report o told s status volumes)
        ⊎ ((HasRoom (reached openings) → ⊥) × FindsNoRoom volumes told s status)
