-- The volumes of a plan's nodes, taken for a run, and what comes of a run over them.
use Rattle.std.specs.Prelude.{◌≡◌, ℕ, ◌≤◌, ◌*◌, Bool, true, List, [], length, map, Option, vec_capacity}
use Rattle.std.specs.List.{AllZip}
use Rattle.plan_form.specs.declared.plans.Plan.{Plan}
use Rattle.world_core.specs.declared.traces.Trace.{Trace}
use Rattle.run_rounds.specs.Finishes.{EndsAs, Tellers}
use Rattle.run_rounds.specs.declared.ends.End.{End}
use Rattle.run_rounds.specs.declared.ends.End.TheVariants as end
use Rattle.command_words.specs.declared.commands.Options.{Options}
use Rattle.plan_volumes.specs.Asides.{AreApart, IsAside}
use Rattle.plan_volumes.specs.Media.{Media, IsLeftAlone}
use Rattle.plan_volumes.specs.Openings.{HasOpened}
use Rattle.plan_volumes.specs.Places.{node_count}
use Rattle.plan_volumes.specs.Kept.{kept_under}
use Rattle.plan_volumes.specs.KeptMedium.{Kept}
use Rattle.plan_volumes.specs.Shelves.{ShelfSight}
use Rattle.plan_volumes.specs.Volumes.{NodeVolumes, all_left, names_from, work_taken}
use Rattle.run_command.specs.declared.reports.Wanted.{Wanted}
use Rattle.run_command.specs.declared.takings.Taken.{Taken}
use Rattle.run_command.specs.Tellings.{TellsEnd}
use Rattle.run_command.specs.Written.{Sinking}

module _ {M : Type 0} (w : Media M) (plan : Plan) (volumes : List (NodeVolumes w)) where
  -- these are the plan's, opened, and there is room for what is handed back of them
  pub record AreTaken (t : Taken M w) : Type 0 where
    pub opened : AllZip (HasOpened w) (map work_taken volumes) t.openings.items
    pub aside : AllZip IsAside volumes t.asides.items
    pub count : (length t.openings.items ≡ node_count plan) × (length t.asides.items ≡ node_count plan)
    pub media : (t.media.items ≡ []) × (node_count plan ≤ vec_capacity t.media)
    pub kept : (t.kept.items ≡ []) × (1000 * node_count plan ≤ vec_capacity t.kept)

  -- and the shelf gave them
  pub record WereGiven (old new : ShelfSight) (t : Taken M w) : Type 0 where
    pub apart : AreApart w old new plan volumes t.openings.items t.asides.items t.wanting
    pub taken : AreTaken t

  -- They are handed back where this is left of those that a run had.
  abbrev pub AreHanded : List (Option M) → List (Kept M) → Type 0
  AreHanded left kept = kept ≡ kept_under (names_from plan 0 volumes) (all_left volumes left)

  -- So a run of the plan over them ended, and so it was told. If memory was wanting for one of them, no run began.
  pub record EndsOver (wanted : Wanted) (o : Options) (wanting : Bool) (told : Tellers) (trace : Trace) (kept : List (Kept M)) (s : Sinking) (status : ℕ) : Type 0 where
    pub left : List (Option M)
    pub ending : End
    pub ends : EndsAs w o.ticks o.messages plan told (map work_taken volumes) left ending
    pub shut : wanting ≡ true → (ending ≡ end.NoMemory) × AllZip (IsLeftAlone w) (map work_taken volumes) left
    pub handed : AreHanded left kept
    pub tells : TellsEnd wanted plan ending status trace s
