-- The nodes of a run, opened with their passes.
use Rattle.std.specs.Prelude.{◌≡◌, ◌≤◌, ℕ, suc, ◌^◌, false, IsTrue, List, [], ◌∷◌, Some}
use Rattle.pseudo_time.specs.declared.nodes.NodeId.{NodeId}
use Rattle.atomic_table.specs.declared.shared.Seat.{Seat}
use Rattle.seat_lock.specs.declared.views.View.{View}
use Rattle.seat_lock.specs.Words.{knows}
use Rattle.effect_form.specs.declared.effects.Effect.{Effect}
use Rattle.effect_form.specs.Effects.{AreEffects}
use Rattle.version_store.specs.StoreWords.{medium_of, effects_in}
use Rattle.plan_form.specs.declared.plans.Plan.{Plan}
use Rattle.world_core.specs.declared.entries.Entry.{Entry}
use Rattle.world_core.specs.Walks.{opened_log}
use Rattle.node_rounds.specs.Wires.{WireParts}
use Rattle.node_rounds.specs.Sights.{Sight, IsOf, origin_at}
use Rattle.node_rounds.specs.Condition.TheVariants as condition
use Rattle.node_rounds.specs.TurnNodes.{NodeParts}
use Rattle.run_media.specs.declared.openings.Opening.{Opening}
use Rattle.run_media.specs.declared.openings.Opening.TheVariants.{Open, Shut, Wanting}
use Rattle.run_media.specs.Media.{Media}
use Rattle.run_media.specs.Openings.{IsReadyFor, log_in, medium_in}
use Rattle.run_media.specs.Places.{node_at}

-- R holds of the items of two lists, place by place, from this place on
abbrev pub Along : {A B : Type 0} → (ℕ → A → B → Type 0) → ℕ → List A → List B → Type 0
Along R i [] [] = Unit {0}
Along R i [] (y ∷ ys) = ⊥
Along R i (x ∷ xs) [] = ⊥
Along R i (x ∷ xs) (y ∷ ys) = R i x y × Along R (suc i) xs ys

-- The node can be opened with this log: the pass is its own and has seen nothing, the wire is that of the plan's run, which the log doesn't refuse.
pub record CanOpen (plan : Plan) (start : ℕ) (n : NodeId) (log : List Effect) (k : Sight) : Type 0 where
  pub early : start ≤ 2 ^ 62
  pub start_is : (origin_at k).start ≡ start
  pub run : (origin_at k).run ≡ plan.run
  pub acts : (origin_at k).acts ≡ plan.acts
  pub own : IsOf n k
  pub story : k.story ≡ []
  pub none : k.own ≡ []
  pub opened : opened_log (origin_at k).opened n ≡ Some log
  pub ready : IsReadyFor plan n log

module _ {M : Type 0} {g : _} (w : Media M) where
  -- the store is open, and its effects are those that were found
  abbrev pub IsSound : Opening M g → Type 0
  IsSound (Open store effects) = (w.is_failed (medium_of store) ≡ false) × AreEffects effects.items × (IsTrue w.tells → effects_in w.reads store ≡ effects.items)
  IsSound (Shut medium cause) = ⊥
  IsSound (Wanting medium) = ⊥

  -- the node in this place can be opened with this pass
  pub record CanSeat (plan : Plan) (start : ℕ) (place : ℕ) (o : Opening M g) (pass : Seat WireParts (View WireParts Entry)) : Type 0 where
    pub sound : IsSound o
    pub can : CanOpen plan start (node_at plan place) (log_in o) (knows pass)

module _ {M : Type 0} {g : _} where
  -- the node in this place, just opened
  pub record IsNewNode (plan : Plan) (place : ℕ) (o : Opening M g) (n : NodeParts M) : Type 0 where
    pub name : n.node ≡ node_at plan place
    pub up : n.condition ≡ condition.AtWork
    pub medium : medium_in o ≡ Some n.medium
