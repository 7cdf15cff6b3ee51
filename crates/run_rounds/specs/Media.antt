-- The media of a run: what nodes were opened with, what they are left with, and why nodes stopped.
use Rattle.std.specs.Prelude.{◌≡◌, ◌⊎◌, ℕ, true, IsTrue, List, [], Option, Some, None, Ok, Err, slice_get}
use Rattle.pseudo_time.specs.declared.nodes.NodeId.{NodeId}
use Rattle.pseudo_time.specs.declared.down_causes.DownCause.TheVariants as down
use Rattle.stream_port.specs.Causes.{Rose, RoseBy}
use Rattle.medium_port.specs.Image.{Image}
use Rattle.effect_form.specs.declared.effects.Effect.{Effect}
use Rattle.version_store.specs.Storage.{storage}
use Rattle.plan_form.specs.declared.plans.Plan.{Plan}
use Rattle.world_core.specs.declared.traces.Trace.{Trace}
use Rattle.world_core.specs.Walks.{opened_log, own}
use Rattle.world_core.specs.Legal.{in_plan}
use Rattle.world_core.specs.Pasts.{WasNotOpened}
use Rattle.world_core.specs.Readings.{life_after, open_effects}
use Rattle.world_core.specs.Counts.{down_cause}
use Rattle.run_starts.specs.Cores.{IsIntact}
use Rattle.run_starts.specs.Costs.{costs}
use Rattle.run_starts.specs.Lives.{IsKept, IsFullFor}
use Rattle.run_media.specs.Media.{Media, AreBack, IsUntouched}
use Rattle.run_media.specs.Places.{place_of}

-- ---- the media of a plan's nodes, in their order

abbrev pub inner : {M : Type 0} → Option (Option M) → Option M
inner None = None
inner (Some m) = m

-- the node's medium
abbrev pub medium_at : {M : Type 0} → Plan → List (Option M) → NodeId → Option M
medium_at plan media n = inner (slice_get media (place_of plan n))

-- these are the node's medium before and after the run
abbrev pub Became : {M : Type 0} → Plan → List (Option M) → List (Option M) → NodeId → M → M → Type 0
Became plan media left n old new = (medium_at plan media n ≡ Some old) × (medium_at plan left n ≡ Some new)

module _ {M : Type 0} (w : Media M) where
  -- the medium held the log with which its node was opened
  abbrev pub WasHeld : Trace → NodeId → M → Type 0
  WasHeld t n old = (log : List Effect) → opened_log t.opened n ≡ Some log → storage (w.reads old) ≡ Ok log

  -- a crash now leaves of the medium its node's durable log, with the first of its open effects
  abbrev pub LeavesLife : Plan → Trace → NodeId → M → Type 0
  LeavesLife plan t n new = (c : Image) → w.may_leave new c → IsKept (life_after plan t n) c

module _ {M : Type 0} (w : Media M) where
  module _ (media left : List (Option M)) where
    -- ---- logs

    -- The node was opened with the log that its medium held. A crash now leaves its durable log with the first of its open effects, of which a node that isn't down has none.
    pub record KeepsLog (plan : Plan) (t : Trace) (n : NodeId) (old new : M) : Type 0 where
      pub opened : WasHeld w t n old
      pub images : LeavesLife w plan t n new
      pub up : down_cause n t.entries ≡ None → open_effects plan t n ≡ []

    -- The logs of the trace are those of the media, before and after. Of a node that wasn't opened the trace has an empty log.
    pub record RestoresLogs (plan : Plan) (t : Trace) : Type 0 where
      pub back : AreBack media left
      pub opened : (n : NodeId) → in_plan plan n ≡ true → (WasNotOpened t.entries n → ⊥) → (old : M) × (new : M) × Became plan media left n old new × (IsTrue w.tells → KeepsLog plan t n old new)
      pub unopened : (n : NodeId) (old new : M) → in_plan plan n ≡ true → WasNotOpened t.entries n → Became plan media left n old new → IsUntouched w old new
      pub empty : (n : NodeId) → in_plan plan n ≡ true → WasNotOpened t.entries n → opened_log t.opened n ≡ Some []

    -- ---- why nodes stopped

    -- The count of a node's medium rose for each of its Crashes, and by two for its Down where its medium failed; by one where it wasn't opened. A node whose medium
    -- was missing is down for it.
    pub record AreCounted (plan : Plan) (t : Trace) : Type 0 where
      pub opened : (n : NodeId) (old new : M) → in_plan plan n ≡ true → (WasNotOpened t.entries n → ⊥) → Became plan media left n old new
          → RoseBy (costs (own n t.entries)) (w.faults old) (w.faults new)
      pub unopened : (n : NodeId) (old new : M) → in_plan plan n ≡ true → WasNotOpened t.entries n → down_cause n t.entries ≡ Some down.Medium → Became plan media left n old new → Rose (w.faults old) (w.faults new)
      pub missing : (n : NodeId) → in_plan plan n ≡ true → medium_at plan media n ≡ None → down_cause n t.entries ≡ Some down.Medium

    -- A node is down since its medium failed; or it wasn't opened, and the page is the first damaged one of what its medium held; or its medium is full: it has the durable log,
    -- and its blank pages don't take the open effects. Without a fault its pages stay: none that was written is changed, and none is spoiled.
    pub record HaveCauses (plan : Plan) (t : Trace) : Type 0 where
      pub unopened : (n : NodeId) → in_plan plan n ≡ true → WasNotOpened t.entries n → (down_cause n t.entries ≡ Some down.Medium) ⊎ ((page : ℕ) × (down_cause n t.entries ≡ Some (down.Damaged page)))
      pub damaged : (n : NodeId) (old new : M) (page : ℕ) → in_plan plan n ≡ true → down_cause n t.entries ≡ Some (down.Damaged page) → Became plan media left n old new
          → WasNotOpened t.entries n × (storage (w.reads old) ≡ Err page)
      pub full : (n : NodeId) (old new : M) (pages : ℕ) → in_plan plan n ≡ true → down_cause n t.entries ≡ Some (down.Full pages) → Became plan media left n old new
          → (pages ≡ w.page_count new) × IsFullFor (life_after plan t n) (w.reads new)
      pub intact : (n : NodeId) (old new : M) → in_plan plan n ≡ true → costs (own n t.entries) ≡ 0 → Became plan media left n old new → IsIntact (w.reads old) (w.reads new)
