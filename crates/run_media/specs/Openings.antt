-- What media were opened as, and why no run begins over what was opened.
use Rattle.std.specs.Prelude.{◌≡◌, ◌≢◌, ℕ, suc, ◌≤◌, true, false, IsTrue, List, [], ◌∷◌, ◌++◌, length, reverse, Option, Some, None, Ok, Err}
use Rattle.pseudo_time.specs.declared.nodes.NodeId.{NodeId}
use Rattle.pseudo_time.specs.declared.nodes.NodeKind.{NodeKind}
use Rattle.pseudo_time.specs.declared.nodes.NodeKind.TheVariants.{Repository, Broker}
use Rattle.pseudo_time.specs.Nodes.{broker}
use Rattle.pseudo_time.specs.declared.down_causes.DownCause.{DownCause}
use Rattle.pseudo_time.specs.declared.down_causes.DownCause.TheVariants as down
use Rattle.stream_port.specs.Causes.{Rose}
use Rattle.medium_port.specs.Image.{Image}
use Rattle.medium_port.specs.Moment.{LeavesOnly}
use Rattle.effect_form.specs.declared.effects.Effect.{Effect}
use Rattle.effect_form.specs.Effects.{AreEffects}
use Rattle.version_store.specs.Storage.{storage}
use Rattle.version_store.specs.StoreWords.{medium_of, effects_in}
use Rattle.version_store.specs.declared.stores.Store.{Store}
use Rattle.plan_form.specs.declared.plans.Plan.{Plan}
use Rattle.broker_core.specs.ResumeFault.{ResumeFault}
use Rattle.broker_core.specs.ResumeFault.TheVariants as resuming
use Rattle.broker_core.specs.Fits.{resume_fault}
use Rattle.broker_core.specs.Readings.{reading}
use Rattle.broker_core.specs.Tasks.{tasks}
use Rattle.world_core.specs.declared.traces.Opened.{Opened}
use Rattle.world_core.specs.Nodes.{acts_of, is_ready}
use Rattle.run_media.specs.declared.openings.Opening.{Opening}
use Rattle.run_media.specs.declared.openings.Opening.TheVariants.{Open, Shut, Wanting}
use Rattle.run_media.specs.declared.openings.Refusal.{Refusal}
use Rattle.run_media.specs.declared.openings.Refusal.TheVariants as refusal
use Rattle.run_media.specs.Media.{Media, IsUntouched}
use Rattle.run_media.specs.Places.{node_at}

module _ {M : Type 0} {g : _} where
  -- the medium that an opening has
  abbrev pub medium_in : Opening M g → Option M
  medium_in (Open store effects) = Some (medium_of store)
  medium_in (Shut medium cause) = medium
  medium_in (Wanting medium) = Some medium

  -- the log with which its node is opened: one that can't be opened has none
  abbrev pub log_in : Opening M g → List Effect
  log_in (Open store effects) = effects.items
  log_in (Shut medium cause) = []
  log_in (Wanting medium) = []

  -- the plan's nodes from this place on, each with the log of its opening
  abbrev pub opened_from : Plan → ℕ → List (Opening M g) → List Opened
  opened_from plan place [] = []
  opened_from plan place (o ∷ os) = record { node = node_at plan place; effects = log_in o } ∷ opened_from plan (suc place) os

  abbrev pub IsOpen : Opening M g → Type 0
  IsOpen (Open store effects) = Unit {0}
  IsOpen (Shut medium cause) = ⊥
  IsOpen (Wanting medium) = ⊥

  abbrev pub IsWanting : Opening M g → Type 0
  IsWanting (Open store effects) = ⊥
  IsWanting (Shut medium cause) = ⊥
  IsWanting (Wanting medium) = Unit {0}

module _ {M : Type 0} (w : Media M) where
  -- why a medium can't be opened
  abbrev pub IsShutFor : DownCause → M → M → Type 0
  IsShutFor down.Medium old new = Rose (w.faults old) (w.faults new)
  IsShutFor (down.Damaged page) old new = IsTrue w.tells → storage (w.reads old) ≡ Err page
  IsShutFor (down.Full pages) old new = ⊥

  -- nothing was written to the medium
  pub record IsAsItWas (old new : M) : Type 0 where
    pub later : w.faults old ≤ w.faults new
    pub still : IsTrue w.tells → w.reads new ≡ w.reads old
    pub untouched : IsUntouched w old new
    -- at no moment a crash left an image that it couldn't have left before
    pub at_moments : IsTrue w.tells → LeavesOnly w.stages old new (w.may_leave old)

  module _ {g : _} where
    -- The store has the log that the medium held, and a crash leaves it.
    pub record IsOpened (old : M) (store : Store M g) (log : List Effect) : Type 0 where
      pub sound : w.is_failed (medium_of store) ≡ false
      pub in_range : AreEffects log
      pub held : IsTrue w.tells → storage (w.reads old) ≡ Ok log
      pub has : IsTrue w.tells → effects_in w.reads store ≡ log
      pub left : IsTrue w.tells → (c : Image) → w.may_leave (medium_of store) c → storage c ≡ Ok log
      pub same : IsAsItWas old (medium_of store)

    -- what came of opening this medium
    abbrev pub HasOpened : Option M → Opening M g → Type 0
    HasOpened None (Open store effects) = ⊥
    HasOpened None (Shut None cause) = cause ≡ down.Medium
    HasOpened None (Shut (Some new) cause) = ⊥
    HasOpened None (Wanting new) = ⊥
    HasOpened (Some old) (Open store effects) = IsOpened old store effects.items
    HasOpened (Some old) (Shut None cause) = ⊥
    HasOpened (Some old) (Shut (Some new) cause) = IsAsItWas old new × IsShutFor cause old new
    HasOpened (Some old) (Wanting new) = IsAsItWas old new

-- ---- refusals
-- why a broker of the plan can't resume from this log, if it can't
abbrev pub kind_fault : Plan → NodeKind → ℕ → List Effect → Option ResumeFault
kind_fault plan Repository number log = None
kind_fault plan Broker number log = resume_fault (reading plan.acts) number plan.run (tasks (acts_of number plan.acts)) (reverse log)

abbrev pub fault_in : Plan → NodeId → List Effect → Option ResumeFault
fault_in plan n log = kind_fault plan n.kind n.number log

-- the log shows neither a later run nor another plan
abbrev pub IsReadyFor : Plan → NodeId → List Effect → Type 0
IsReadyFor plan n log = is_ready (reading plan.acts) plan.run plan.acts n log ≡ true

-- the refusal for this fault
abbrev pub IsRefusalFor : ResumeFault → Refusal → Type 0
IsRefusalFor fault refusal.NoMemory = fault ≡ resuming.NoMemory
IsRefusalFor fault (refusal.Resume told) = (told ≡ fault) × (fault ≢ resuming.NoMemory)

-- why a broker can't resume from this log, if it can't
abbrev pub RefusesLog : Plan → ℕ → List Effect → Option Refusal → Type 0
RefusesLog plan number log None = fault_in plan (broker number) log ≡ None
RefusesLog plan number log (Some refusal.NoMemory) = Unit {0}
RefusesLog plan number log (Some (refusal.Resume fault)) = (fault_in plan (broker number) log ≡ Some fault) × (fault ≢ resuming.NoMemory)

module _ {M : Type 0} {g : _} where
  -- why the node can't go on, if it can't
  abbrev pub Refuses : Plan → NodeId → Opening M g → Option Refusal → Type 0
  Refuses plan n o None = IsReadyFor plan n (log_in o) × (IsWanting o → ⊥)
  Refuses plan n o (Some refusal.NoMemory) = Unit {0}
  Refuses plan n o (Some (refusal.Resume fault)) = IsOpen o × (fault_in plan n (log_in o) ≡ Some fault) × (fault ≢ resuming.NoMemory)

  -- From this place on each node can go on.
  abbrev pub AreReady : Plan → ℕ → List (Opening M g) → Type 0
  AreReady plan place [] = Unit {0}
  AreReady plan place (o ∷ os) = Refuses plan (node_at plan place) o None × AreReady plan (suc place) os

  -- its log's effects are in range
  abbrev pub IsInRange : Opening M g → Type 0
  IsInRange o = AreEffects (log_in o)

  -- the first node that can't go on, and why
  pub record IsFirstRefusal (plan : Plan) (os : List (Opening M g)) (why : Refusal) : Type 0 where
    pub front : List (Opening M g)
    pub one : Opening M g
    pub back : List (Opening M g)
    pub is : os ≡ front ++ one ∷ back
    pub before : AreReady plan 0 front
    pub refused : Refuses plan (node_at plan (length front)) one (Some why)

  -- why no run of the plan begins, if none does
  abbrev pub FirstRefusal : Plan → List (Opening M g) → Option Refusal → Type 0
  FirstRefusal plan os None = AreReady plan 0 os
  FirstRefusal plan os (Some why) = IsFirstRefusal plan os why
