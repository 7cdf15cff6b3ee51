-- What holds of a run of a plan that has ended, and of one that didn't begin.
use Rattle.std.specs.Prelude.{◌≡◌, ◌≢◌, ◌⊎◌, ◌≤◌, ◌<◌, ◌^◌, ℕ, true, IsTrue, List, ◌++◌, map, Option, Some, Ok}
use Rattle.pseudo_time.specs.Lists.{Every}
use Rattle.stream_port.specs.declared.fates.Asked.{Asked}
use Rattle.stream_port.specs.Causes.{Rose}
use Rattle.pseudo_time.specs.declared.nodes.NodeId.{NodeId}
use Rattle.pseudo_time.specs.Nodes.{broker}
use Rattle.effect_form.specs.declared.effects.Effect.{Effect}
use Rattle.version_store.specs.Storage.{storage}
use Rattle.plan_form.specs.declared.plans.Plan.{Plan}
use Rattle.broker_core.specs.ResumeFault.{ResumeFault}
use Rattle.broker_core.specs.ResumeFault.TheVariants as resuming
use Rattle.broker_core.specs.Readings.{reading}
use Rattle.world_core.specs.declared.traces.Trace.{Trace}
use Rattle.world_core.specs.Legal.{JustNodes, AllReady, base_of, asked_of, in_plan, is_within}
use Rattle.world_core.specs.Readings.{IsLegal}
use Rattle.run_starts.specs.Clocked.{IsClocked, tick_moments}
use Rattle.run_starts.specs.Learns.{LearnsAreNew}
use Rattle.trace_report.specs.Replays.{IsOpened}
use Rattle.run_rounds.specs.Ends.{HasEnded, IsUnopened}
use Rattle.run_media.specs.Media.{Media}
use Rattle.run_media.specs.Openings.{fault_in}
use Rattle.run_rounds.specs.Kills.{SurvivesKills}
use Rattle.run_rounds.specs.Media.{Became, LeavesLife, WasHeld, medium_at, RestoresLogs, AreCounted, HaveCauses}

-- a run's trace, and what the fates and the clock had told before and have after it
pub record Account : Type 0 where
  pub trace : Trace
  pub asked_before : List Asked
  pub asked : List Asked
  pub answers_before : Option (List ℕ)
  pub answers : Option (List ℕ)

-- The trace is legal for the plan and all that the fates were ever asked. They were asked for its messages, in order, and the clock for its start and its Ticks. Each of its Learns is new.
pub record IsTold (plan : Plan) (told : Account) : Type 0 where
  pub legal : IsLegal plan told.asked told.trace
  pub fates : told.asked ≡ told.asked_before ++ map asked_of told.trace.sent
  pub clock : IsClocked told.answers_before told.answers told.trace.start told.trace.entries
  pub learns : LearnsAreNew (base_of (reading plan.acts) plan told.trace) told.trace.entries

-- Its moments, the numbers of its nodes and the effects of their logs are in range.
pub record HasRanges (t : Trace) : Type 0 where
  pub start : t.start ≤ 2 ^ 62
  pub opened : Every IsOpened t.opened
  pub moments : Every (λ moment. moment < 2 ^ 63) (tick_moments t.entries)

-- A run of the plan over media of this kind, which is over as this says.
pub record RanTo {M : Type 0} (w : Media M) (IsOver : Trace → Type 0) (plan : Plan) (told : Account) (media left : List (Option M)) : Type 0 where
  pub nodes : JustNodes plan told.trace.opened
  pub ready : AllReady (base_of (reading plan.acts) plan told.trace)
  pub ranges : HasRanges told.trace
  pub is_told : IsTrue w.tells → IsTold plan told
  pub over : IsTrue w.tells → IsOver told.trace
  pub logs : RestoresLogs w media left plan told.trace
  pub counts : AreCounted w media left plan told.trace
  pub stops : IsTrue w.tells → HaveCauses w media left plan told.trace
  pub kills : IsTrue w.tells → SurvivesKills w media left plan told.trace

-- A run for its acts, with at most so many Ticks, and so many messages at which it ends.
abbrev pub Ran : {M : Type 0} → Media M → (most_ticks enough : ℕ) → Plan → Account → (media left : List (Option M)) → Type 0
Ran w most_ticks enough plan told media left = RanTo w (λ t. HasEnded most_ticks enough plan t ⊎ IsUnopened plan t) plan told media left

-- Memory ran out in a run of the plan over these media, and its trace is told to no one. There is one: legal for the plan, with each node opened with the log that its medium held, and a crash now
-- leaves of each medium its node's durable log there, with the first of its open effects.
pub record RanUntold {M : Type 0} (w : Media M) (plan : Plan) (asked_before : List Asked) (media left : List (Option M)) : Type 0 where
  pub trace : Trace
  pub nodes : JustNodes plan trace.opened
  pub ready : AllReady (base_of (reading plan.acts) plan trace)
  pub legal : IsLegal plan (asked_before ++ map asked_of trace.sent) trace
  pub logs : (n : NodeId) → in_plan plan n ≡ true → (old : M) × (new : M) × Became plan media left n old new × WasHeld w trace n old × LeavesLife w plan trace n new

-- ---- where no run began

module _ {M : Type 0} (w : Media M) (plan : Plan) (media left : List (Option M)) where
  -- the medium of this broker held a log that shows this fault
  abbrev pub Shows : ℕ → ResumeFault → Type 0
  Shows b fault = (old : M) × (medium_at plan media (broker b) ≡ Some old) × (log : List Effect) × (storage (w.reads old) ≡ Ok log) × (fault_in plan (broker b) log ≡ Some fault)

  -- Of the brokers whose medium could be opened this is the first whose log shows a later run or another plan, and this is what it shows.
  pub record IsFirstFault (fault : ResumeFault) : Type 0 where
    pub some : fault ≢ resuming.NoMemory
    pub which : ℕ
    pub within : is_within which plan.brokers ≡ true
    pub shown : IsTrue w.tells → Shows which fault
    pub first : IsTrue w.tells → (b : ℕ) (other : ResumeFault) → is_within b plan.brokers ≡ true → b < which → Shows b other → (old new : M) → Became plan media left (broker b) old new → Rose (w.faults old) (w.faults new)
