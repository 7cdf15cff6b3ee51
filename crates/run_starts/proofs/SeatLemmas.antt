-- What opening a node asks, by what is known of its place.
use Rattle.run_starts.proofs.Names.{◌≡◌, ◌≤◌, ◌+◌, ◌^◌, ℕ, slice_get, zero, suc, true, List, [], ◌∷◌, ◌++◌, map, Option, Some, refl, ap, sym, subst, ◌∙◌, arith, map-append, NodeId, Vec, same_Some, Effect, Asked, Plan, CanRun, reading, Scripted, fresh, acts_of, is_ready, opened_log, WireParts, owner_for, Sight, IsOf, origin_at, base_at, NodeParts, Opening, Open, Shut, Wanting, IsReadyFor, AreReady, opened_from, log_in, medium_in, node_at, log-at, Along, CanOpen, IsSound, IsNewNode, IsSetUp}
use Rattle.pseudo_time.specs.declared.nodes.NodeKind.{NodeKind}
use Rattle.value_form.specs.declared.acts.ActSpec.{ActSpec}
use Rattle.std.specs.declared.alloc.Global.{Global}
use Rattle.version_store.specs.declared.stores.Store.{Store}
use Rattle.broker_core.specs.Ledgers.{AreBrokerActs}
use Rattle.world_core.proofs.PlanRangeLemmas.{plan-own_acts}
use Rattle.node_rounds.specs.Cores.{IsReady}
use Rattle.run_media.specs.Media.{Media}
use Rattle.run_media.proofs.OpeningLemmas.{reads-own}

-- one more of both
pub map-pushed : {A B : Type 0} (f : A → B) (new done : List B) (all front : List A) (last : A) (y : B) → new ≡ done ++ y ∷ [] → done ≡ map f front → all ≡ front ++ last ∷ [] → y ≡ f last → new ≡ map f all
map-pushed f new done all front last y e d split is =
    e ∙ (ap (λ l. l ++ y ∷ []) d ∙ (ap (λ z. map f front ++ z ∷ []) is ∙ (sym (map-append f front (last ∷ [])) ∙ ap (map f) (sym split))))

module _ (plan : Plan) (start : ℕ) (n : NodeId) (log : List Effect) (k : Sight) (can : CanOpen plan start n log k) where
  -- ---- by its kind

  module _ (kind : NodeKind) (is : n.kind ≡ kind) where
    abbrev name : NodeId
    name = record { kind = kind; number = n.number }

    pub named : n ≡ name
    named i = record { kind = is i; number = n.number }

    pub named-own : IsOf name k
    named-own = subst (λ (m : NodeId). IsOf m k) named can.own

    pub named-opened : opened_log (origin_at k).opened name ≡ Some log
    named-opened = subst (λ (m : NodeId). opened_log (origin_at k).opened m ≡ Some log) named can.opened

    pub named-ready : IsReady (base_at k) name log
    named-ready =
        subst (λ (m : NodeId). IsReady (base_at k) m log) named
        (subst (λ (acts : List ActSpec). is_ready (reading acts) (origin_at k).run acts n log ≡ true) (sym can.acts) (subst (λ (r : ℕ). is_ready (reading plan.acts) r plan.acts n log ≡ true) (sym can.run) can.ready))

  -- ---- a broker's acts

  pub own-acts : (acts : List ActSpec) → CanRun plan → acts ≡ acts_of n.number plan.acts → AreBrokerActs acts × (acts ≡ acts_of n.number (origin_at k).acts) × Scripted (base_at k).script acts
  own-acts acts w is = (
    subst AreBrokerActs (sym is) (plan-own_acts plan n.number w),
    is ∙ ap (acts_of n.number) (sym can.acts),
    subst (λ (all : List ActSpec). Scripted (reading all) acts) (sym can.acts) (subst (Scripted (reading plan.acts)) (sym is) (reads-own plan n.number w)),
  )

-- ---- from what the run's wire begins with

module _ {M : Type 0} {g : _} where
  some-ready : (plan : Plan) (k : ℕ) (os : List (Opening M g)) (i : ℕ) (o : Opening M g) → AreReady plan k os → slice_get os i ≡ Some o → IsReadyFor plan (node_at plan (k + i)) (log_in o)
  some-ready plan k [] i o h e = absurd cc
  some-ready plan k (x ∷ os) zero o h e =
      let z : k ≡ k + 0 = omega arith in
      subst (λ (y : Opening M g). IsReadyFor plan (node_at plan (k + 0)) (log_in y)) (same_Some _ _ e) (subst (λ (j : ℕ). IsReadyFor plan (node_at plan j) (log_in x)) z h.0.0)
  some-ready plan k (x ∷ os) (suc i) o h e = let z : suc k + i ≡ k + suc i = omega arith in subst (λ (j : ℕ). IsReadyFor plan (node_at plan j) (log_in o)) z (some-ready plan (suc k) os i o h.1 e)

  -- a pass that has seen nothing, in its place
  pub can-open : (plan : Plan) (os : List (Opening M g)) (asked : List Asked) (answers : Option (List ℕ)) (w : WireParts) (start i : ℕ) (o : Opening M g) (k : Sight) → IsSetUp plan os asked answers w.origin → start ≡ w.origin.start → AreReady plan 0 os → slice_get os i ≡ Some o
      → k ≡ fresh w (owner_for (node_at plan i)) → CanOpen plan start (node_at plan i) (log_in o) k
  can-open plan os asked answers w start i o k s start-is ready at unseen =
      let z : 0 + i ≡ i = omega arith in
      subst (CanOpen plan start (node_at plan i) (log_in o)) (sym unseen) (record {
        early = subst (λ (t : ℕ). t ≤ 2 ^ 62) (sym start-is) s.start;
        start_is = sym start-is;
        run = s.run;
        acts = s.acts;
        own = refl;
        story = refl;
        none = refl;
        opened = ap (λ l. opened_log l (node_at plan i)) s.opened ∙ (ap (λ (j : ℕ). opened_log (opened_from plan 0 os) (node_at plan j)) (sym z) ∙ log-at plan 0 os i o at);
        ready = subst (λ (j : ℕ). IsReadyFor plan (node_at plan j) (log_in o)) z (some-ready plan 0 os i o ready at);
      })

-- ---- nodes that were opened, place by place

module _ {M : Type 0} {g : _} where
  -- what is sound is open
  pub sound-open : (w : Media M) (o : Opening M g) → IsSound w o → ((store : Store M g) (effects : Vec Effect Global) → o ≡ Open store effects → ⊥) → ⊥
  sound-open w (Open store effects) s other = other store effects refl
  sound-open w (Shut medium cause) s other = s
  sound-open w (Wanting medium) s other = s

  -- their media are those of what was opened
  pub new-media : (plan : Plan) (i : ℕ) (os : List (Opening M g)) (ns : List (NodeParts M)) → Along (IsNewNode plan) i os ns → map (λ n. Some n.medium) ns ≡ map medium_in os
  new-media plan i [] [] h = refl
  new-media plan i [] (n ∷ ns) h = absurd h
  new-media plan i (o ∷ os) [] h = absurd h
  new-media plan i (o ∷ os) (n ∷ ns) h = λ j. sym h.0.medium j ∷ new-media plan (suc i) os ns h.1 j

-- one more of both, the other way round
pub map-popped : {A B : Type 0} (f : A → B) (new done : List A) (last : A) (all more : List B) (y : B) → new ≡ done ++ last ∷ [] → map f done ≡ more → f last ≡ y → all ≡ more ++ y ∷ [] → map f new ≡ all
map-popped f new done last all more y e d is split =
    ap (map f) e ∙ (map-append f done (last ∷ []) ∙ (ap (λ l. l ++ f last ∷ []) d ∙ (ap (λ z. more ++ z ∷ []) is ∙ sym split)))

pub along-none : {A B : Type 0} (R : ℕ → A → B → Type 0) (i : ℕ) (xs : List A) (ys : List B) → xs ≡ [] → Along R i xs ys → ys ≡ []
along-none R i [] [] e h = refl
along-none R i [] (y ∷ ys) e h = absurd h
along-none R i (x ∷ xs) ys e h = absurd cc
