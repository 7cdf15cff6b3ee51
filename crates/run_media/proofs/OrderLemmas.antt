-- The nodes of a plan in their order.
use Rattle.run_media.proofs.Names.{◌≡◌, ◌≢◌, ◌≤◌, ◌<◌, ◌+◌, ◌-◌, ◌&&◌, nat_lt, nat_le, ℕ, zero, suc, Bool, true, false, List, [], ◌∷◌, ◌++◌, length, Some, None, is_some, slice_get, slice_index_or, take, refl, ap, sym, subst, ◌∙◌, arith, if◌then◌else◌, cond, nat_tests, take_more, length-take-le, sum_by-cons, count_by, NodeId, NodeKind, Repository, Broker, Effect, Plan, JustNodes, in_plan, is_within, most_of, Opening, log_in, opened_from, node_count, node_at, kind_place, place_of}
use Rattle.pseudo_time.specs.Nodes.{repository, broker, same_node}
use Rattle.message_core.proofs.NodeLemmas.{same_is, same_node-refl}
use Rattle.world_core.specs.declared.traces.Opened.{Opened}
use Rattle.world_core.specs.Walks.{opened_log}

-- ---- numbers

within-low : (i most : ℕ) → is_within i most ≡ true → 1 ≤ i
within-low zero most e = absurd cc
within-low (suc i) most e = omega arith

within-high : (i most : ℕ) → is_within i most ≡ true → i ≤ most
within-high i most e = go (nat_le 1 i) (nat_le i most) refl e
  where
    go : (x y : Bool) → nat_le i most ≡ y → (x && y) ≡ true → i ≤ most
    go true true f e = grind (arith, nat_tests)
    go true false f e = absurd cc
    go false y f e = absurd cc

within-is : (i most : ℕ) → 1 ≤ i → i ≤ most → is_within i most ≡ true
within-is i most low high =
    let a : nat_le 1 i ≡ true = grind (arith, nat_tests) in
    let b : nat_le i most ≡ true = grind (arith, nat_tests) in
    λ t. a t && b t

-- ---- places

at-low : (plan : Plan) (i : ℕ) → i < plan.repositories → node_at plan i ≡ repository (i + 1)
at-low plan i lt = let e : nat_lt i plan.repositories ≡ true = grind (arith, nat_tests) in ap (λ t. if t then repository (i + 1) else broker (i - plan.repositories + 1)) e

at-high : (plan : Plan) (i : ℕ) → plan.repositories ≤ i → node_at plan i ≡ broker (i - plan.repositories + 1)
at-high plan i le = let e : nat_lt i plan.repositories ≡ false = grind (arith, nat_tests) in ap (λ t. if t then repository (i + 1) else broker (i - plan.repositories + 1)) e

pub place-at : (plan : Plan) (i : ℕ) → place_of plan (node_at plan i) ≡ i
place-at plan i = go (nat_lt i plan.repositories) refl
  where
    go : (t : Bool) → nat_lt i plan.repositories ≡ t → place_of plan (if t then repository (i + 1) else broker (i - plan.repositories + 1)) ≡ i
    go true e = omega arith
    go false e = let h : plan.repositories ≤ i = grind (arith, nat_tests) in omega (arith, h)

pub in-at : (plan : Plan) (i : ℕ) → i < node_count plan → in_plan plan (node_at plan i) ≡ true
in-at plan i lt = go (nat_lt i plan.repositories) refl
  where
    go : (t : Bool) → nat_lt i plan.repositories ≡ t → in_plan plan (if t then repository (i + 1) else broker (i - plan.repositories + 1)) ≡ true
    go true e = let h : i < plan.repositories = grind (arith, nat_tests) in within-is (i + 1) plan.repositories (omega arith) (omega (arith, h))
    go false e = let h : plan.repositories ≤ i = grind (arith, nat_tests) in within-is (i - plan.repositories + 1) plan.brokers (omega arith) (omega (arith, h, lt))

kind-at : (plan : Plan) (k : NodeKind) (number : ℕ) → is_within number (most_of plan k) ≡ true → (kind_place plan k number < node_count plan) × (node_at plan (kind_place plan k number) ≡ record { kind = k; number = number })
kind-at plan Repository number e =
    let low = within-low number plan.repositories e in let high = within-high number plan.repositories e in
    let n : number - 1 + 1 ≡ number = omega (arith, low) in
    (omega (arith, low, high), at-low plan (number - 1) (omega (arith, low, high)) ∙ ap repository n)
kind-at plan Broker number e =
    let low = within-low number plan.brokers e in let high = within-high number plan.brokers e in
    let n : plan.repositories + number - 1 - plan.repositories + 1 ≡ number = omega (arith, low) in
    (omega (arith, low, high), at-high plan (plan.repositories + number - 1) (omega (arith, low)) ∙ ap broker n)

-- a node of the plan stands in its place
pub at-place : (plan : Plan) (n : NodeId) → in_plan plan n ≡ true → (place_of plan n < node_count plan) × (node_at plan (place_of plan n) ≡ n)
at-place plan n e = kind-at plan n.kind n.number e

pub one-place : (plan : Plan) (i j : ℕ) → node_at plan i ≡ node_at plan j → i ≡ j
one-place plan i j e = sym (place-at plan i) ∙ (ap (place_of plan) e ∙ place-at plan j)

-- ---- lists of nodes

-- none of them has this name
abbrev NotFrom : Plan → ℕ → NodeId → Type 0
NotFrom plan k n = (i : ℕ) → k ≤ i → node_at plan i ≢ n

not-next : (plan : Plan) (k : ℕ) (n : NodeId) → NotFrom plan k n → NotFrom plan (suc k) n
not-next plan k n none i le = none i (omega (arith, le))

not-same : (a n : NodeId) → a ≢ n → same_node a n ≡ false
not-same a n other = go (same_node a n) refl
  where
    go : (t : Bool) → same_node a n ≡ t → t ≡ false
    go true e = absurd (other (same_is a n e))
    go false e = refl

-- those behind a node's own place have other names
later-not : (plan : Plan) (k : ℕ) → NotFrom plan (suc k) (node_at plan k)
later-not plan k i le e = let h = one-place plan i k e in omega (arith, h, le)

abbrev opened-as : NodeId → List Effect → Opened
opened-as n log = record { node = n; effects = log }

abbrev one_if : Bool → ℕ
one_if t = cond t 1 0

module _ {M : Type 0} {g : _} where
  pub opened-more : (plan : Plan) (k : ℕ) (xs : List (Opening M g)) (x : Opening M g) → opened_from plan k (xs ++ x ∷ []) ≡ opened_from plan k xs ++ record { node = node_at plan (k + length xs); effects = log_in x } ∷ []
  opened-more plan k [] x = let e : k ≡ k + 0 = omega arith in ap (λ (i : ℕ). record { node = node_at plan i; effects = log_in x } ∷ []) e
  opened-more plan k (y ∷ xs) x =
      let e : suc k + length xs ≡ k + length (y ∷ xs) = omega arith in
      ap (λ l. record { node = node_at plan k; effects = log_in y } ∷ l) (opened-more plan (suc k) xs x ∙ ap (λ (i : ℕ). opened_from plan (suc k) xs ++ record { node = node_at plan i; effects = log_in x } ∷ []) e)

  -- the log of the node in a place
  pub log-at : (plan : Plan) (k : ℕ) (os : List (Opening M g)) (i : ℕ) (o : Opening M g) → slice_get os i ≡ Some o → opened_log (opened_from plan k os) (node_at plan (k + i)) ≡ Some (log_in o)
  log-at plan k [] i o got = absurd cc
  log-at plan k (x ∷ os) zero o got =
      let e : k + 0 ≡ k = omega arith in
      let x-is : x ≡ o = some-same got in
      ap (λ (j : ℕ). opened_log (opened_from plan k (x ∷ os)) (node_at plan j)) e
      ∙ (ap (λ (t : Bool). if t then Some (log_in x) else opened_log (opened_from plan (suc k) os) (node_at plan k)) (same_node-refl (node_at plan k)) ∙ ap (λ (y : Opening M g). Some (log_in y)) x-is)
    where
      some-same : {T : Type 0} {x y : T} → Some x ≡ Some y → x ≡ y
      some-same e = cc
  log-at plan k (x ∷ os) (suc i) o got =
      let e : suc k + i ≡ k + suc i = omega arith in
      let other : node_at plan k ≢ node_at plan (k + suc i) = λ z. (let h = one-place plan k (k + suc i) z in omega (arith, h)) in
      ap (λ (t : Bool). if t then Some (log_in x) else opened_log (opened_from plan (suc k) os) (node_at plan (k + suc i))) (not-same (node_at plan k) (node_at plan (k + suc i)) other)
      ∙ (ap (λ (j : ℕ). opened_log (opened_from plan (suc k) os) (node_at plan j)) (sym e) ∙ log-at plan (suc k) os i o got)

  -- how many of them have this name
  abbrev named : Plan → ℕ → List (Opening M g) → NodeId → ℕ
  named plan k os n = count_by (λ (o : Opened). same_node o.node n) (opened_from plan k os)

  named-next : (plan : Plan) (k : ℕ) (o : Opening M g) (os : List (Opening M g)) (n : NodeId) → named plan k (o ∷ os) n ≡ one_if (same_node (node_at plan k) n) + named plan (suc k) os n
  named-next plan k o os n = sum_by-cons (λ (x : Opened). cond (same_node x.node n) 1 0) (opened-as (node_at plan k) (log_in o)) (opened_from plan (suc k) os)

  count-none : (plan : Plan) (k : ℕ) (os : List (Opening M g)) (n : NodeId) → NotFrom plan k n → named plan k os n ≡ 0
  count-none plan k [] n none = refl
  count-none plan k (o ∷ os) n none =
      let e : one_if (same_node (node_at plan k) n) ≡ 0 = ap one_if (not-same (node_at plan k) n (none k (omega arith))) in
      let h = named-next plan k o os n in
      let r = count-none plan (suc k) os n (not-next plan k n none) in
      omega (arith, e, h, r)

  count-few : (plan : Plan) (k : ℕ) (os : List (Opening M g)) (n : NodeId) → named plan k os n ≤ 1
  count-few plan k [] n = omega arith
  count-few plan k (o ∷ os) n = go (named-next plan k o os n) (count-few plan (suc k) os n) (same_node (node_at plan k) n) refl
    where
      go : named plan k (o ∷ os) n ≡ one_if (same_node (node_at plan k) n) + named plan (suc k) os n → named plan (suc k) os n ≤ 1 → (t : Bool) → same_node (node_at plan k) n ≡ t → named plan k (o ∷ os) n ≤ 1
      go h rest true e =
          let is = same_is (node_at plan k) n e in
          let c : one_if (same_node (node_at plan k) n) ≡ 1 = ap one_if e in
          let z : named plan (suc k) os n ≡ 0 = count-none plan (suc k) os n (subst (λ (m : NodeId). NotFrom plan (suc k) m) is (later-not plan k)) in
          omega (arith, h, c, z)
      go h rest false e =
          let c : one_if (same_node (node_at plan k) n) ≡ 0 = ap one_if e in
          omega (arith, h, c, rest)

  some-at : (xs : List (Opening M g)) (i : ℕ) → i < length xs → (x : Opening M g) × (slice_get xs i ≡ Some x)
  some-at [] i lt = absurd (omega (arith, lt))
  some-at (x ∷ xs) zero lt = (x, refl)
  some-at (x ∷ xs) (suc i) lt = some-at xs i (omega (arith, lt))

  -- a log is that of a node of the plan
  in-log : (plan : Plan) (k : ℕ) (os : List (Opening M g)) (n : NodeId) → k + length os ≤ node_count plan → in_plan plan n ≡ false → opened_log (opened_from plan k os) n ≡ None
  in-log plan k [] n few out = refl
  in-log plan k (o ∷ os) n few out =
      ap (λ (t : Bool). if t then Some (log_in o) else opened_log (opened_from plan (suc k) os) n) (not-same (node_at plan k) n (λ e. (let h : true ≡ false = sym (in-at plan k (omega (arith, few))) ∙ (ap (in_plan plan) e ∙ out) in cc h)))
      ∙ in-log plan (suc k) os n (omega (arith, few)) out

  -- just the plan's nodes
  pub just-nodes : (plan : Plan) (os : List (Opening M g)) → length os ≡ node_count plan → JustNodes plan (opened_from plan 0 os)
  just-nodes plan os count = record { just = λ n. go n (in_plan plan n) refl; once = count-few plan 0 os }
    where
      go : (n : NodeId) (t : Bool) → in_plan plan n ≡ t → is_some (opened_log (opened_from plan 0 os) n) ≡ t
      go n true e =
          let p = at-place plan n e in
          let o = some-at os (place_of plan n) (let h = p.0 in omega (arith, h, count)) in
          let z : place_of plan n ≡ 0 + place_of plan n = omega arith in
          ap is_some (ap (opened_log (opened_from plan 0 os)) (sym p.1 ∙ ap (node_at plan) z) ∙ log-at plan 0 os (place_of plan n) o.0 o.1)
      go n false e = ap is_some (in-log plan 0 os n (omega (arith, count)) e)

  -- one node more is opened
  pub next-opened : (plan : Plan) (os : List (Opening M g)) (i : ℕ) (o : Opening M g) (n : NodeId) (log : List Effect) (xs ys : List Opened) → i < length os → o ≡ slice_index_or os i o → n ≡ node_at plan i → log ≡ log_in o
      → xs ≡ opened_from plan 0 (take i os) → ys ≡ xs ++ record { node = n; effects = log } ∷ [] → ys ≡ opened_from plan 0 (take (i + 1) os)
  next-opened plan os i o n log xs ys inside read name is before more =
      let size : length (take i os) ≡ i = length-take-le i os (omega (arith, inside)) in
      let sum : i ≡ 0 + length (take i os) = omega (arith, size) in
      let one : opened-as n log ≡ opened-as (node_at plan (0 + length (take i os))) (log_in o) = λ t. record { node = (name ∙ ap (node_at plan) sum) t; effects = is t } in
      more ∙ ((λ t. before t ++ one t ∷ []) ∙ (sym (opened-more plan 0 (take i os) o) ∙ ap (opened_from plan 0) (ap (λ (x : Opening M g). take i os ++ x ∷ []) read ∙ sym (take_more os i o inside))))
