-- What is known at the end of the node in each place of the plan.
use Rattle.run_rounds.proofs.Names.{NodeId, Asked, RoseBy, rose_by_none, Image, Effect, storage, medium_of, Plan, fresh, knows, Opened, in_plan, opened_log, Origin, WireParts, owner_for, Sight, IsIntact, costs, NodeParts, IsAtRest, sight, GoesOn, Opening, Open, Shut, Wanting, Media, IsBack, AreBack, HasOpened, IsOpen, log_in, node_at, node_count, place_of, at-place, log-at, Along, IsNewNode, IsSetUp, fresh_for, Pass, Became, inner, medium_at, ◌≡◌, ◌≢◌, ◌≤◌, ◌<◌, ◌+◌, ◌∙◌, ℕ, suc, true, IsTrue, List, [], ◌∷◌, Option, Some, None, length, map, slice_get, Ok, refl, ap, sym, subst, arith, All, AllZip, All-map, get_or_from_slice_get, slice_get_within, same_Some}
use Rattle.run_starts.specs.Condition.TheVariants as condition
use Rattle.run_rounds.proofs.ListLemmas.{all-first, all-mapped, all-rest, along-at, along-mapped, get-mapped}

-- ---- new passes

-- a new pass has no entries of its own
pub none-own : (w : WireParts) (opened : List Opened) (passes : List Pass) → map knows passes ≡ fresh_for w opened → All (λ (pass : Pass). (knows pass).own ≡ []) passes
none-own w opened passes are =
    all-mapped (λ (k : Sight). k.own ≡ []) knows passes
    (subst (All (λ (k : Sight). k.own ≡ [])) (sym are) (All-map (λ (k : Sight). k.own ≡ []) (λ (o : Opened). fresh w (owner_for o.node)) opened (λ k d lt. refl)))

module _ {M : Type 0} (w : Media M) (plan : Plan) (o : Origin) (Q : Pass → Type 0) where
  -- ---- one node

  -- What is known of the node at the end, which was opened with this medium: its log, what its entries cost, what it is at rest, and that its pass has Q.
  pub record Went (n : NodeId) (old : M) (p : NodeParts M) : Type 0 where
    pub name : p.node ≡ n
    pub log : List Effect
    pub opened : opened_log o.opened n ≡ Some log
    pub held : IsTrue w.tells → storage (w.reads old) ≡ Ok log
    pub paid : RoseBy (costs (sight p).own) (w.faults old) (w.faults p.medium)
    pub whole : IsTrue w.tells → p.condition ≢ condition.Wanting → costs (sight p).own ≡ 0 → IsIntact (w.reads old) (w.reads p.medium)
    pub rest : IsAtRest w p
    pub pass : Q p.pass

  -- so it is of the node in this place, whose medium there was
  abbrev pub At : ℕ → Option M → NodeParts M → Type 0
  At i x p = (old : M) × (x ≡ Some old) × Went (node_at plan i) old p

  module _ {g : _} where
    went-one : (i : ℕ) (x : Option M) (op : Opening M g) (b p : NodeParts M) → HasOpened w x op → IsOpen op → IsNewNode plan i op b → (sight b).own ≡ [] → GoesOn w.tells w.faults w.reads b p
        → IsAtRest w p → Q p.pass → opened_log o.opened (node_at plan i) ≡ Some (log_in op) → At i x p
    went-one i None (Open store effects) b p h is new none went rest pass log = absurd h
    went-one i (Some old) (Open store effects) b p h is new none went rest pass log = (
      old,
      refl,
      record {
        name = went.node ∙ new.name;
        log = effects.items;
        opened = log;
        held = h.held;
        paid = went.paid (w.faults old) (subst (λ (n : ℕ). RoseBy n (w.faults old) (w.faults b.medium)) (sym free) (rose_by_none (w.faults old) (w.faults b.medium) (subst (λ (m : M). w.faults old ≤ w.faults m) same h.same.later)));
        whole = λ t memory costless. subst (λ (image : Image). IsIntact image (w.reads p.medium)) (ap w.reads (sym same) ∙ h.same.still t) (went.whole t memory (costless ∙ sym free));
        rest = rest;
        pass = pass;
      },
    )
      where
        same : medium_of store ≡ b.medium
        same = same_Some _ _ new.medium

        free : costs (sight b).own ≡ 0
        free = ap costs none
    went-one i x (Shut medium cause) b p h is new none went rest pass log = absurd is
    went-one i x (Wanting medium) b p h is new none went rest pass log = absurd is

    -- ---- all nodes

    -- the logs of these nodes, from this place on
    abbrev pub Logs : ℕ → List (Opening M g) → Type 0
    Logs i os = (k : ℕ) (op : Opening M g) → slice_get os k ≡ Some op → opened_log o.opened (node_at plan (i + k)) ≡ Some (log_in op)

    logs-first : (i : ℕ) (op : Opening M g) (os : List (Opening M g)) → Logs i (op ∷ os) → opened_log o.opened (node_at plan i) ≡ Some (log_in op)
    logs-first i op os logs = let z : i + 0 ≡ i = omega arith in subst (λ (j : ℕ). opened_log o.opened (node_at plan j) ≡ Some (log_in op)) z (logs 0 op refl)

    logs-rest : (i : ℕ) (op : Opening M g) (os : List (Opening M g)) → Logs i (op ∷ os) → Logs (suc i) os
    logs-rest i op os logs = λ k x at. (let z : i + suc k ≡ suc i + k = omega arith in subst (λ (j : ℕ). opened_log o.opened (node_at plan j) ≡ Some (log_in x)) z (logs (suc k) x at))

    pub went-along : (i : ℕ) (xs : List (Option M)) (os : List (Opening M g)) (bs ps : List (NodeParts M)) → AllZip (HasOpened w) xs os → All IsOpen os → Along (IsNewNode plan) i os bs → All (λ (b : NodeParts M). (sight b).own ≡ []) bs
        → AllZip (GoesOn w.tells w.faults w.reads) bs ps → All (IsAtRest w) ps → All (λ (p : NodeParts M). Q p.pass) ps → Logs i os → Along At i xs ps
    went-along i [] [] [] [] opened are-open new none went rest pass logs = tt
    went-along i [] [] [] (p ∷ ps) opened are-open new none went rest pass logs = absurd went
    went-along i [] [] (b ∷ bs) ps opened are-open new none went rest pass logs = absurd new
    went-along i [] (op ∷ os) bs ps opened are-open new none went rest pass logs = absurd opened
    went-along i (x ∷ xs) [] bs ps opened are-open new none went rest pass logs = absurd opened
    went-along i (x ∷ xs) (op ∷ os) [] ps opened are-open new none went rest pass logs = absurd new
    went-along i (x ∷ xs) (op ∷ os) (b ∷ bs) [] opened are-open new none went rest pass logs = absurd went
    went-along i (x ∷ xs) (op ∷ os) (b ∷ bs) (p ∷ ps) opened are-open new none went rest pass logs = (
      went-one i x op b p opened.0 (all-first IsOpen op os are-open) new.0 (all-first (λ (n : NodeParts M). (sight n).own ≡ []) b bs none) went.0 (all-first (IsAtRest w) p ps rest)
          (all-first (λ (n : NodeParts M). Q n.pass) p ps pass) (logs-first i op os logs),
      went-along (suc i) xs os bs ps opened.1 (all-rest IsOpen op os are-open) new.1 (all-rest (λ (n : NodeParts M). (sight n).own ≡ []) b bs none) went.1 (all-rest (IsAtRest w) p ps rest)
          (all-rest (λ (n : NodeParts M). Q n.pass) p ps pass) (logs-rest i op os logs),
    )

    -- the logs that the run's wire was set up with
    pub logs-of : (os : List (Opening M g)) (asked : List Asked) (answers : Option (List ℕ)) → IsSetUp plan os asked answers o → Logs 0 os
    logs-of os asked answers s k op at = ap (λ (l : List Opened). opened_log l (node_at plan (0 + k))) s.opened ∙ log-at plan 0 os k op at

  module _ (first : List (Option M)) (ps : List (NodeParts M)) (along : Along At 0 first ps) where
    abbrev pub left : List (Option M)
    left = map (λ (p : NodeParts M). Some p.medium) ps

    -- each medium is back
    pub are-back : AreBack first left
    are-back = along-mapped At IsBack (λ (p : NodeParts M). Some p.medium) (λ i x p h. subst (λ (z : Option M). IsBack z (Some p.medium)) (sym h.1) tt) 0 first ps along

    -- ---- by its name

    -- the node of this name, with its media before and after
    pub record Seen (n : NodeId) : Type 0 where
      pub old : M
      pub node : NodeParts M
      pub before : medium_at plan first n ≡ Some old
      pub after : medium_at plan left n ≡ Some node.medium
      pub went : Went n old node
      pub place : ℕ
      pub here : slice_get ps place ≡ Some node

    pub seen : length first ≡ node_count plan → (n : NodeId) → in_plan plan n ≡ true → Seen n
    seen count n is = record {
      old = h.4.0;
      node = h.1;
      before = ap inner (h.2 ∙ ap (λ (x : Option M). Some x) h.4.1);
      after = ap inner (get-mapped (λ (p : NodeParts M). Some p.medium) ps (place_of plan n) h.1 h.3);
      went = subst (λ (m : NodeId). Went m h.4.0 h.1) name h.4.2;
      place = place_of plan n;
      here = h.3;
    }
      where
        at : (place_of plan n < node_count plan) × (node_at plan (place_of plan n) ≡ n)
        at = at-place plan n is

        h : (x : Option M) × (p : NodeParts M) × (slice_get first (place_of plan n) ≡ Some x) × (slice_get ps (place_of plan n) ≡ Some p) × At (0 + place_of plan n) x p
        h = along-at At 0 first ps (place_of plan n) along (let lt = at.0 in omega (arith, lt, count))

        name : node_at plan (0 + place_of plan n) ≡ n
        name = let z : 0 + place_of plan n ≡ place_of plan n = omega arith in ap (node_at plan) z ∙ at.1

    module _ (n : NodeId) (s : Seen n) where
      -- a medium that became another is the node's
      pub old-is : (old new : M) → Became plan first left n old new → s.old ≡ old
      old-is old new became = same_Some _ _ (sym s.before ∙ became.0)

      pub new-is : (old new : M) → Became plan first left n old new → s.node.medium ≡ new
      new-is old new became = same_Some _ _ (sym s.after ∙ became.1)

      -- what holds of all nodes holds of it
      pub of-seen : (P : NodeParts M → Type 0) → All P ps → P s.node
      of-seen P all = subst P (get_or_from_slice_get ps s.place s.node s.node s.here) (all s.place s.node (slice_get_within ps s.place s.node s.here))
