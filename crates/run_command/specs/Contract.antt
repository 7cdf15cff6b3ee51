-- What comes of a plan that is run.
use Rattle.std.specs.Prelude.{◌≡◌, ◌⊎◌, ℕ, ◌≤◌, ◌<◌, true, IsTrue, List, [], ◌++◌, length, map, Option, Ok}
use Rattle.std.proofs.Common.{inl, inr}
use Rattle.std.specs.List.{AllZip}
use Rattle.pseudo_time.specs.Lists.{Every, Has}
use Rattle.pseudo_time.specs.declared.nodes.NodeId.{NodeId}
use Rattle.stream_port.specs.Causes.{Rose}
use Rattle.stream_port.specs.declared.fates.Asked.{Asked}
use Rattle.effect_form.specs.declared.effects.Effect.{Effect}
use Rattle.medium_port.specs.Image.{Image, IsBlankImage, NoMore}
use Rattle.version_store.specs.Storage.{storage}
use Rattle.plan_form.specs.declared.plans.Plan.{Plan}
use Rattle.plan_form.specs.PlanTexts.{CanRun}
use Rattle.broker_core.specs.ResumeFault.{ResumeFault}
use Rattle.world_core.specs.Legal.{fates_of, in_plan}
use Rattle.world_core.specs.Readings.{IsLegal}
use Rattle.world_core.specs.declared.traces.Trace.{Trace}
use Rattle.run_rounds.specs.Stories.{no_trace}
use Rattle.command_words.specs.declared.commands.Options.{Options}
use Rattle.plan_volumes.specs.Media.{Media, IsLeftAlone}
use Rattle.run_rounds.specs.Runs.{Account, Ran, RanUntold, IsFirstFault}
use Rattle.complete_law.specs.Serials.{AreLate, HoldsFinals, IsSerialOver}
use Rattle.complete_law.specs.Acknowledged.{KeepsAnswers, SpendsRightly}
use Rattle.complete_law.specs.Reasons.{AddedHaveReasons, HaveReasons}
use Rattle.complete_law.specs.Calm.{IsPlain}
use Rattle.run_rounds.specs.Places.{PlacesHavePasts}
use Rattle.plan_volumes.specs.Shelves.{ShelfSight, volume_name}
use Rattle.plan_volumes.specs.KeptMedium.{Kept}
use Rattle.plan_volumes.specs.Volumes.{HadMemory, HasVolumes, NodeVolumes, work_taken}
use Rattle.run_command.specs.Finals.{AreFinalsOfOpened}
use Rattle.run_command.specs.Sights.{SeeFinishedRuns}
use Rattle.run_command.specs.Smooth.{AskAtMost, WentSmoothly, messages_for, pages_for, volumes_of_blank}
use Rattle.run_command.specs.declared.reports.Wanted.{Wanted}
use Rattle.run_command.specs.Lines.{resume_line}
use Rattle.run_command.specs.Tellings.{status_of, wanted_text}
use Rattle.run_command.specs.Written.{Sinking, EndsIfAny, GotLine, HasNoMemory}

-- no run began: nothing was asked, and the trace names no node
pub record HasNoRun (told : Account) : Type 0 where
  pub trace : told.trace ≡ no_trace
  pub fates : told.asked ≡ told.asked_before
  pub clock : told.answers ≡ told.answers_before

-- what holds of each legal run of a plan
pub record HoldsOfRuns : Type 0 where
  pub serial : (plan : Plan) (asked : List Asked) (t : Trace) → CanRun plan → IsLegal plan asked t → IsSerialOver plan t
  pub late : (plan : Plan) (asked : List Asked) (t : Trace) → CanRun plan → IsLegal plan asked t → AreLate plan t
  pub sees : (plan : Plan) (asked : List Asked) (t : Trace) → CanRun plan → IsLegal plan asked t → SeeFinishedRuns plan t
  pub finals : (plan : Plan) (asked : List Asked) (t : Trace) → CanRun plan → IsLegal plan asked t → HoldsFinals plan t
  pub answers : (plan : Plan) (asked : List Asked) (t : Trace) → CanRun plan → IsLegal plan asked t → KeepsAnswers plan t
  pub reasons : (plan : Plan) (asked : List Asked) (t : Trace) → CanRun plan → IsLegal plan asked t → HaveReasons plan t
  pub spent : (plan : Plan) (asked : List Asked) (t : Trace) → CanRun plan → IsLegal plan asked t → SpendsRightly plan t
  pub added : (plan : Plan) (asked : List Asked) (t : Trace) → AddedHaveReasons plan asked t
  pub pasts : (plan : Plan) (asked : List Asked) (t : Trace) → CanRun plan → IsLegal plan asked t → PlacesHavePasts plan t

module _ {M : Type 0} (w : Media M) (old : ShelfSight) where
  -- A crash leaves no image of this medium that it couldn't have left before; or the log that the medium had, with more behind it.
  abbrev pub LosesNothing : Kept M → Type 0
  LosesNothing k = (IsTrue w.tells → NoMore (old.may_hold (volume_name k.node k.volume)) (w.may_leave k.medium))
      ⊎ (IsTrue w.tells → (log : List Effect) × (storage (old.holds (volume_name k.node k.volume)) ≡ Ok log) × ((c : Image) → w.may_leave k.medium c → (more : List Effect) × (storage c ≡ Ok (log ++ more))))

module _ {M : Type 0} (w : Media M) (old new : ShelfSight) (kept : List (Kept M)) where
  module _ (plan : Plan) where
    -- A run over one volume of each node of the plan, and what follows of its trace. What is left of these is handed back, and each other volume as it was opened.
    pub record RanOver (o : Options) (told : Account) : Type 0 where
      pub volumes : List (NodeVolumes w)
      pub left : List (Option M)
      pub has : HasVolumes w old new plan volumes left kept
      pub memory : HadMemory w volumes
      pub ran : Ran w o.ticks o.messages plan told (map work_taken volumes) left
      pub serial : IsTrue w.tells → IsSerialOver plan told.trace
      pub late : IsTrue w.tells → AreLate plan told.trace
      pub sees : IsTrue w.tells → SeeFinishedRuns plan told.trace
      pub finals : IsTrue w.tells → HoldsFinals plan told.trace
      pub opened : AreFinalsOfOpened plan told.trace
      pub answers : IsTrue w.tells → KeepsAnswers plan told.trace
      pub reasons : IsTrue w.tells → HaveReasons plan told.trace
      pub spent : IsTrue w.tells → SpendsRightly plan told.trace
      pub added : AddedHaveReasons plan told.asked told.trace
      pub pasts : IsTrue w.tells → PlacesHavePasts plan told.trace

    -- A broker's log refuses the plan: the first that could be opened and shows a fault. The volumes of the plan's nodes were taken, and are handed back as they were.
    pub record IsRefusedByLog (s : Sinking) : Type 0 where
      pub volumes : List (NodeVolumes w)
      pub left : List (Option M)
      pub has : HasVolumes w old new plan volumes left kept
      pub memory : HadMemory w volumes
      pub untouched : AllZip (IsLeftAlone w) (map work_taken volumes) left
      pub why : ResumeFault
      pub first : IsFirstFault w plan (map work_taken volumes) left why
      pub line : GotLine s (resume_line why)

    -- Memory ran out before any medium was asked for.
    pub record TookNothing (told : Account) : Type 0 where
      pub none : kept ≡ []
      pub unasked : new.asked ≡ old.asked
      pub no_run : HasNoRun told

    -- Memory ran out, and no trace is reported. The media that the shelf gave are handed back, and none lost anything. They have a past all the same: none was written to; or there was a run, whose trace is
    -- reported to no one.
    pub record WantedMemory (told : Account) : Type 0 where
      pub trace : told.trace ≡ no_trace
      pub volumes : List (NodeVolumes w)
      pub left : List (Option M)
      pub has : HasVolumes w old new plan volumes left kept
      pub safe : Every (LosesNothing w old) kept
      pub past : IsTrue w.tells → AllZip (IsLeftAlone w) (map work_taken volumes) left ⊎ (HadMemory w volumes × RanUntold w plan told.asked_before (map work_taken volumes) left)

    -- What came of running the plan: memory ran out, and nothing was written; or a broker's log refuses it; or it ran, and is reported unless memory ran out for that.
    abbrev pub CameOf : Wanted → Options → Account → Sinking → ℕ → Type 0
    CameOf wanted o told s status = (HasNoMemory status s × (TookNothing told ⊎ WantedMemory told))
        ⊎ (((status ≡ 2) × IsRefusedByLog s × HasNoRun told)
        ⊎ (RanOver o told × EndsIfAny status s (status_of plan told.trace) (wanted_text wanted plan told.trace)))

    -- these are the volumes of what came of it
    abbrev pub AreVolumesOf : (wanted : Wanted) (o : Options) (told : Account) (s : Sinking) (status : ℕ) → List (NodeVolumes w) → CameOf wanted o told s status → Type 0
    AreVolumesOf wanted o told s status volumes (inl (seven, inl nothing)) = volumes ≡ []
    AreVolumesOf wanted o told s status volumes (inl (seven, inr wanting)) = wanting.volumes ≡ volumes
    AreVolumesOf wanted o told s status volumes (inr (inl (two, refused, no_run))) = refused.volumes ≡ volumes
    AreVolumesOf wanted o told s status volumes (inr (inr (ran, ends))) = ran.volumes ≡ volumes

    -- Scripts of the plan make at most so many requests; no count rose of the shelf, a medium or the sink; the nodes' volumes were blank and had enough pages;
    -- fewer messages are sent than those at which the run ends, each as one copy without a hold.
    pub record IsSmooth (o : Options) (told : Account) (s : Sinking) (most : ℕ) : Type 0 where
      pub asks : AskAtMost plan most
      pub sink : Rose s.faults_before s.faults → ⊥
      pub shelf : Rose old.faults new.faults → ⊥
      pub media : (n : NodeId) (v : ℕ) (m : M) → Has (record { node = n; volume = v; medium = m }) kept → Rose (old.medium_faults (volume_name n v)) (w.faults m) → ⊥
      pub blank : (n : NodeId) (v : ℕ) → in_plan plan n ≡ true → v < volumes_of_blank n.kind → IsBlankImage (old.holds (volume_name n v))
      pub large : (n : NodeId) (v : ℕ) → in_plan plan n ≡ true → v < volumes_of_blank n.kind → pages_for plan most ≤ length (old.holds (volume_name n v))
      pub few : messages_for plan most < o.messages
      pub plain : Every IsPlain (fates_of told.trace.sent)

    -- Where all is smooth the run is complete, and its text is written, unless memory ran out.
    abbrev pub Completes : Options → Account → Sinking → ℕ → Type 0
    Completes o told s status = IsTrue w.tells → (most : ℕ) → IsSmooth o told s most → (status ≡ 7) ⊎ ((status ≡ 0) × WentSmoothly o.ticks plan told.trace)

    -- what came of running the plan; and what must succeed, succeeds
    pub record RunsPlan (wanted : Wanted) (o : Options) (told : Account) (s : Sinking) (status : ℕ) : Type 0 where
      pub came : CameOf wanted o told s status
      pub completes : Completes o told s status

    -- the same over these volumes
    abbrev pub RunsOver : Wanted → Options → Account → Sinking → ℕ → List (NodeVolumes w) → Type 0
    RunsOver wanted o told s status volumes = (runs : RunsPlan wanted o told s status) × AreVolumesOf wanted o told s status volumes runs.came
