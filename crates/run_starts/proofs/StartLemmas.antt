-- The passes of a run's nodes, and its wire.
use Rattle.run_starts.proofs.Names.{◌≡◌, ◌≢◌, ◌≤◌, ◌<◌, ◌+◌, ◌-◌, nat_lt, ℕ, suc, Bool, true, false, List, [], ◌∷◌, ◌++◌, length, map, Option, Some, refl, ap, sym, subst, ◌∙◌, arith, if◌then◌else◌, All, slice_index_or, AllPairs, nat_tests, map-append, same_from_push, get_or_append_left, get_or_push, length_push, All-cons, All-nil, All-push, same_Some, NodeId, Effect, Asked, Plan, CanRun, reading, fresh, Opened, is_ready, opened_log, Scripted, Origin, WireParts, IsRunOf, owner_for, Sight, owners_for, Opening, opened_from, log_in, AreReady, node_count, node_at, just-nodes, IsSetUp, fresh_for}
use Rattle.std.proofs.lemmas.List.Kept.{AllPairs-cons}
use Rattle.pseudo_time.specs.Nodes.{repository, broker, same_node}
use Rattle.message_core.proofs.NodeLemmas.{same_is}
use Rattle.world_core.specs.Legal.{JustNodes}
use Rattle.world_core.proofs.OneReading.{own-reading}

-- ---- owners

abbrev owner_at : Plan → ℕ → ℕ
owner_at plan i = owner_for (node_at plan i)

owner-is : (plan : Plan) (i : ℕ) (t : Bool) → nat_lt i plan.repositories ≡ t → owner_at plan i ≡ (if t then i + 1 else 16 + (i - plan.repositories + 1))
owner-is plan i true e = ap (λ s. owner_for (if s then repository (i + 1) else broker (i - plan.repositories + 1))) e
owner-is plan i false e = ap (λ s. owner_for (if s then repository (i + 1) else broker (i - plan.repositories + 1))) e

owner-some : (plan : Plan) (i : ℕ) → 1 ≤ owner_at plan i
owner-some plan i = go (nat_lt i plan.repositories) refl
  where
    go : (t : Bool) → nat_lt i plan.repositories ≡ t → 1 ≤ owner_at plan i
    go true e = let o = owner-is plan i true e in omega (arith, o)
    go false e = let o = owner-is plan i false e in omega (arith, o)

owner-rises : (plan : Plan) → plan.repositories ≤ 16 → (i j : ℕ) → i < j → owner_at plan i < owner_at plan j
owner-rises plan few i j lt = go (nat_lt i plan.repositories) (nat_lt j plan.repositories) refl refl
  where
    go : (s t : Bool) → nat_lt i plan.repositories ≡ s → nat_lt j plan.repositories ≡ t → owner_at plan i < owner_at plan j
    go true true e f = let o = owner-is plan i true e in let p = owner-is plan j true f in omega (arith, o, p, lt)
    go true false e f =
        let h : i < plan.repositories = grind (arith, nat_tests) in
        let o = owner-is plan i true e in let p = owner-is plan j false f in omega (arith, o, p, h, few)
    go false true e f =
        let h : plan.repositories ≤ i = grind (arith, nat_tests) in
        let k : j < plan.repositories = grind (arith, nat_tests) in absurd (omega (arith, h, k, lt))
    go false false e f =
        let h : plan.repositories ≤ i = grind (arith, nat_tests) in
        let o = owner-is plan i false e in let p = owner-is plan j false f in omega (arith, o, p, h, lt)

module _ {M : Type 0} {g : _} where
  others-differ : (plan : Plan) → plan.repositories ≤ 16 → (k : ℕ) (os : List (Opening M g)) (i : ℕ) → i < k → All (λ b. owner_at plan i ≢ b) (owners_for (opened_from plan k os))
  others-differ plan few k [] i lt = All-cons (λ b. owner_at plan i ≢ b) 0 [] (λ e. let s = owner-some plan i in omega (arith, s, e)) (All-nil (λ b. owner_at plan i ≢ b))
  others-differ plan few k (o ∷ os) i lt =
      All-cons (λ b. owner_at plan i ≢ b) (owner_at plan k) (owners_for (opened_from plan (suc k) os)) (λ e. let r = owner-rises plan few i k lt in omega (arith, r, e)) (others-differ plan few (suc k) os i (omega (arith, lt)))

  -- the owners of a run's passes differ
  pub owners-differ : (plan : Plan) → plan.repositories ≤ 16 → (k : ℕ) (os : List (Opening M g)) → AllPairs (λ a b. a ≢ b) (owners_for (opened_from plan k os))
  owners-differ plan few k [] = AllPairs-cons (λ a b. a ≢ b) 0 [] (All-nil (λ b. 0 ≢ b)) (λ i j d l m. absurd (omega (arith, m)))
  owners-differ plan few k (o ∷ os) = AllPairs-cons (λ a b. a ≢ b) (owner_at plan k) (owners_for (opened_from plan (suc k) os)) (others-differ plan few (suc k) os k (omega arith)) (owners-differ plan few (suc k) os)

  -- ---- the run

  -- each log that a node is opened with is one to go on from
  logs-ready : (plan : Plan) (k : ℕ) (os : List (Opening M g)) → AreReady plan k os → (n : NodeId) (log : List Effect) → opened_log (opened_from plan k os) n ≡ Some log → is_ready (reading plan.acts) plan.run plan.acts n log ≡ true
  logs-ready plan k [] ready n log e = absurd cc
  logs-ready plan k (o ∷ os) ready n log e = go (logs-ready plan (suc k) os ready.1 n log) (same_node (node_at plan k) n) refl e
    where
      go : (opened_log (opened_from plan (suc k) os) n ≡ Some log → is_ready (reading plan.acts) plan.run plan.acts n log ≡ true)
          → (t : Bool) → same_node (node_at plan k) n ≡ t → (if t then Some (log_in o) else opened_log (opened_from plan (suc k) os) n) ≡ Some log → is_ready (reading plan.acts) plan.run plan.acts n log ≡ true
      go rest true s f =
          let l : log_in o ≡ log = same_Some _ _ f in
          subst (λ (m : NodeId). is_ready (reading plan.acts) plan.run plan.acts m log ≡ true) (same_is (node_at plan k) n s) (subst (λ (x : List Effect). is_ready (reading plan.acts) plan.run plan.acts (node_at plan k) x ≡ true) l ready.0.0)
      go rest false s f = rest f

  -- what is set up is a run of the plan
  pub run-of : (plan : Plan) (os : List (Opening M g)) (asked : List Asked) (answers : Option (List ℕ)) (o : Origin) → IsSetUp plan os asked answers o → CanRun plan → length os ≡ node_count plan → AreReady plan 0 os → IsRunOf plan o
  run-of plan os asked answers o s w count ready = record {
    run = sym s.run;
    acts = sym s.acts;
    nodes = subst (JustNodes plan) (sym s.opened) (just-nodes plan os count);
    scripted = subst (λ acts. Scripted (reading acts) acts) (sym s.acts) (own-reading plan w);
    ready = λ n log e. subst (λ acts. is_ready (reading acts) o.run acts n log ≡ true) (sym s.acts) (subst (λ (r : ℕ). is_ready (reading plan.acts) r plan.acts n log ≡ true) (sym s.run) (logs-ready plan 0 os ready n log (sym (ap (λ l. opened_log l n) s.opened) ∙ e)));
  }

-- ---- passes

-- what the new passes know: those of the nodes, and the conductor's
pub fresh-owners : (w : WireParts) (opened : List Opened) → map (fresh w) (owners_for opened) ≡ fresh_for w opened ++ fresh w 0 ∷ []
fresh-owners w [] = refl
fresh-owners w (o ∷ os) = ap (λ l. fresh w (owner_for o.node) ∷ l) (fresh-owners w os)

-- the last pass is the conductor's, and the others are the nodes'
pub split-passes : {P : Type 0} (f : P → Sight) (w : WireParts) (opened : List Opened) (all front : List P) (last : P) → map f all ≡ map (fresh w) (owners_for opened) → all ≡ front ++ last ∷ [] → (map f front ≡ fresh_for w opened) × (f last ≡ fresh w 0)
split-passes f w opened all front last is split = same_from_push (map f front) (fresh_for w opened) (f last) (fresh w 0) (sym (map-append f front (last ∷ [])) ∙ (ap (map f) (sym split) ∙ (is ∙ fresh-owners w opened)))

pub all-front : {T : Type 0} (P : T → Type 0) (all front : List T) (last : T) → all ≡ front ++ last ∷ [] → All P all → All P front
all-front P all front last e h k d lt =
    subst P (ap (λ l. slice_index_or l k d) e ∙ get_or_append_left front (last ∷ []) d k lt) (h k d (let n = ap length e ∙ length_push front last in omega (arith, n, lt)))

pub all-last : {T : Type 0} (P : T → Type 0) (all front : List T) (last : T) → all ≡ front ++ last ∷ [] → All P all → P last
all-last P all front last e h =
    subst P (ap (λ l. slice_index_or l (length front) last) e ∙ get_or_push front last last (length front) refl) (h (length front) last (let n = ap length e ∙ length_push front last in omega (arith, n)))

pub all-pushed : {T : Type 0} (P : T → Type 0) (new front : List T) (last : T) → new ≡ front ++ last ∷ [] → All P front → P last → All P new
all-pushed P new front last e h one = subst (All P) (sym e) (All-push P front last h one)
