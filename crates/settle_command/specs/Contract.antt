-- What comes of a settle.
use Rattle.std.specs.Prelude.{◌≡◌, ◌⊎◌, ℕ, Bool, true, IsTrue, List, [], map, Option}
use Rattle.std.specs.List.{AllZip}
use Rattle.plan_form.specs.declared.plans.Plan.{Plan}
use Rattle.plan_volumes.specs.KeptMedium.{Kept}
use Rattle.plan_volumes.specs.Media.{IsLeftAlone, Media}
use Rattle.plan_volumes.specs.Shelves.{ShelfSight}
use Rattle.plan_volumes.specs.Volumes.{HadMemory, HasVolumes, NodeVolumes, work_taken}
use Rattle.run_command.specs.Contract.{TookNothing, WantedMemory}
use Rattle.run_command.specs.Takings.{AreHanded}
use Rattle.run_command.specs.Written.{HasNoMemory, Sinking}
use Rattle.run_rounds.specs.Ends.{HasSettled, IsUnopened}
use Rattle.run_rounds.specs.Finishes.{EndsTo, Tellers}
use Rattle.run_rounds.specs.Places.{PlacesHavePasts}
use Rattle.run_rounds.specs.Runs.{Account, RanTo}
use Rattle.run_rounds.specs.declared.ends.End.{End}
use Rattle.run_rounds.specs.declared.ends.End.TheVariants as end
use Rattle.settle_law.specs.Settling.{AllExpired}
use Rattle.settle_command.specs.Plans.{settle_plan}
use Rattle.settle_command.specs.Tellings.{IsReported, TellsSettle}
use Rattle.world_core.specs.declared.traces.Trace.{Trace}

-- it has settled, or a node of it wasn't opened
abbrev pub IsOverAs : Plan → Trace → Type 0
IsOverAs plan t = HasSettled plan t ⊎ IsUnopened plan t

module _ {M : Type 0} (w : Media M) (plan : Plan) (volumes : List (NodeVolumes w)) where
  -- So a settle over these volumes ended, and so it was told. If memory was wanting for one of them, nothing happened.
  pub record SettleEnds (wanting : Bool) (told : Tellers) (trace : Trace) (kept : List (Kept M)) (s : Sinking) (status : ℕ) : Type 0 where
    pub left : List (Option M)
    pub ending : End
    pub ends : EndsTo w (IsOverAs plan) plan told (map work_taken volumes) left ending
    pub shut : wanting ≡ true → (ending ≡ end.NoMemory) × AllZip (IsLeftAlone w) (map work_taken volumes) left
    pub handed : AreHanded w plan volumes left kept
    pub tells : TellsSettle plan ending status trace s

module _ {M : Type 0} (w : Media M) (old new : ShelfSight) (kept : List (Kept M)) where
  -- A legal run of this plan, without a broker, over one volume of each repository: a Tick that each hears, and then each learns what was decided. What is left of these volumes is handed back, and each
  -- other one as it was opened. No message is sent, and what is due at the Tick expires. Each place of it, so also the one at which a kill stops it, has a past.
  pub record SettledOver (plan : Plan) (told : Account) : Type 0 where
    pub volumes : List (NodeVolumes w)
    pub left : List (Option M)
    pub has : HasVolumes w old new plan volumes left kept
    pub memory : HadMemory w volumes
    pub ran : RanTo w (IsOverAs plan) plan told (map work_taken volumes) left
    pub silent : IsTrue w.tells → told.trace.sent ≡ []
    pub expired : IsTrue w.tells → AllExpired plan told.trace
    pub pasts : IsTrue w.tells → PlacesHavePasts plan told.trace

  -- What came of settling these repositories: memory ran out, and nothing was written; or they settled, which is reported unless memory ran out for that.
  abbrev pub SettlesAll : (repositories : ℕ) → Account → Sinking → ℕ → Type 0
  SettlesAll repositories told s status = (HasNoMemory status s × (TookNothing w old new kept (settle_plan repositories) told ⊎ WantedMemory w old new kept (settle_plan repositories) told))
      ⊎ (SettledOver (settle_plan repositories) told × IsReported (settle_plan repositories) told.trace status s)
