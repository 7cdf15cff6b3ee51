-- Media that are handed back where no run began, and the broker whose log refuses a plan.
use Rattle.run_rounds.proofs.Names.{NodeId, NodeKind, Repository, Broker, repository, broker, Rose, Effect, storage, Plan, reading, in_plan, is_within, is_ready, Opening, Open, Shut, Wanting, Media, IsBack, AreBack, HasOpened, medium_in, log_in, IsInRange, IsOpen, AreReady, node_count, node_at, place_of, place-at, at-place, in-at, Became, inner, IsKeptWhole, in-range, zip-back, ◌≡◌, ◌<◌, ◌+◌, ◌-◌, inl, nat_lt, ℕ, zero, suc, Bool, true, false, IsTrue, List, [], ◌∷◌, ◌++◌, length, map, Option, Some, None, Ok, Err, Result, is_none, slice_get, refl, ap, sym, subst, ◌∙◌, arith, if◌then◌else◌, All, AllZip, All-cons, All-nil, same_Some, kind_ready, IsLeftAlone, IsWanting, kind_fault, fault_in, IsReadyFor, IsFirstRefusal, Shows, IsFirstFault}
use Rattle.pseudo_time.specs.declared.down_causes.DownCause.TheVariants as down
use Rattle.broker_core.specs.ResumeFault.{ResumeFault}
use Rattle.run_media.specs.declared.openings.Refusal.TheVariants as refusal

zip-mapped : {A B C : Type 0} (P : A → B → Type 0) (Q : A → C → Type 0) (f : B → C) → ((x : A) (y : B) → P x y → Q x (f y)) → (xs : List A) (ys : List B) → AllZip P xs ys → AllZip Q xs (map f ys)
zip-mapped P Q f k [] [] h = tt
zip-mapped P Q f k [] (y ∷ ys) h = absurd h
zip-mapped P Q f k (x ∷ xs) [] h = absurd h
zip-mapped P Q f k (x ∷ xs) (y ∷ ys) h = (k x y h.0, zip-mapped P Q f k xs ys h.1)

all-second : {A B : Type 0} (P : A → B → Type 0) (Q : B → Type 0) → ((x : A) (y : B) → P x y → Q y) → (xs : List A) (ys : List B) → AllZip P xs ys → All Q ys
all-second P Q k [] [] h = All-nil Q
all-second P Q k [] (y ∷ ys) h = absurd h
all-second P Q k (x ∷ xs) [] h = absurd h
all-second P Q k (x ∷ xs) (y ∷ ys) h = All-cons Q y ys (k x y h.0) (all-second P Q k xs ys h.1)

module _ {M : Type 0} (w : Media M) where
  kept-alone : (old new : Option M) → IsLeftAlone w old new → IsKeptWhole w old new
  kept-alone None None h = tt
  kept-alone None (Some new) h = absurd h
  kept-alone (Some old) None h = absurd h
  kept-alone (Some old) (Some new) h = inl h

module _ {M : Type 0} {g : _} (w : Media M) where
  in-range-one : (old : Option M) (o : Opening M g) → HasOpened w old o → IsInRange o
  in-range-one None (Open store effects) h = absurd h
  in-range-one (Some old) (Open store effects) h = h.in_range
  in-range-one old (Shut medium cause) h = tt
  in-range-one old (Wanting new) h = tt

  back-one : (old : Option M) (o : Opening M g) → HasOpened w old o → IsBack old (medium_in o)
  back-one None (Open store effects) h = absurd h
  back-one None (Shut None cause) h = tt
  back-one None (Shut (Some new) cause) h = absurd h
  back-one None (Wanting new) h = absurd h
  back-one (Some old) (Open store effects) h = tt
  back-one (Some old) (Shut None cause) h = absurd h
  back-one (Some old) (Shut (Some new) cause) h = tt
  back-one (Some old) (Wanting new) h = tt

  alone-one : (old : Option M) (o : Opening M g) → HasOpened w old o → IsLeftAlone w old (medium_in o)
  alone-one None (Open store effects) h = absurd h
  alone-one None (Shut None cause) h = tt
  alone-one None (Shut (Some new) cause) h = absurd h
  alone-one None (Wanting new) h = absurd h
  alone-one (Some old) (Open store effects) h = h.same.untouched
  alone-one (Some old) (Shut None cause) h = absurd h
  alone-one (Some old) (Shut (Some new) cause) h = h.0.untouched
  alone-one (Some old) (Wanting new) h = h.untouched

  module _ (media : List (Option M)) (os : List (Opening M g)) (opened : AllZip (HasOpened w) media os) where
    -- the effects of their logs are in range
    pub opened-in-range : All IsInRange os
    opened-in-range = all-second (HasOpened w) IsInRange in-range-one media os opened

    -- each medium is back in its place, and nothing was written
    pub opened-back : AreBack media (map medium_in os)
    opened-back = zip-mapped (HasOpened w) IsBack medium_in back-one media os opened

    pub opened-alone : AllZip (IsLeftAlone w) media (map medium_in os)
    opened-alone = zip-mapped (HasOpened w) (IsLeftAlone w) medium_in alone-one media os opened

    pub opened-kept : AllZip (IsKeptWhole w) media (map medium_in os)
    opened-kept = zip-mapped (HasOpened w) (IsKeptWhole w) medium_in (λ x y h. kept-alone w x (medium_in y) (alone-one x y h)) media os opened

-- ---- refusals

ok-same : {x y : List Effect} (r : Result (List Effect) ℕ) → r ≡ Ok x → r ≡ Ok y → x ≡ y
ok-same r p q = cc

-- a node that may go on shows no fault
ready-fault : (plan : Plan) (n : NodeId) (log : List Effect) → IsReadyFor plan n log → fault_in plan n log ≡ None
unfolding is_ready
ready-fault plan n log h = go n.kind n.number h
  where
    none : (o : Option ResumeFault) → is_none o ≡ true → o ≡ None
    none None e = refl
    none (Some f) e = absurd cc

    go : (k : NodeKind) (i : ℕ) → kind_ready (reading plan.acts) plan.run plan.acts k i log ≡ true → kind_fault plan k i log ≡ None
    go Repository i e = refl
    go Broker i e = none _ e

-- the node of a place that shows a fault is a broker
broker-at : (plan : Plan) (p : ℕ) (log : List Effect) (f : ResumeFault) → fault_in plan (node_at plan p) log ≡ Some f → p < node_count plan → (b : ℕ) × (node_at plan p ≡ broker b) × (is_within b plan.brokers ≡ true)
broker-at plan p log f e lt = go (nat_lt p plan.repositories) refl e (in-at plan p lt)
  where
    go : (t : Bool) → nat_lt p plan.repositories ≡ t → fault_in plan (if t then repository (p + 1) else broker (p - plan.repositories + 1)) log ≡ Some f
        → in_plan plan (if t then repository (p + 1) else broker (p - plan.repositories + 1)) ≡ true
        → (b : ℕ) × ((if t then repository (p + 1) else broker (p - plan.repositories + 1)) ≡ broker b) × (is_within b plan.brokers ≡ true)
    go true s e i = absurd cc
    go false s e i = (p - plan.repositories + 1, refl, i)

module _ {M : Type 0} {g : _} where
  pub ready-at : (plan : Plan) (k : ℕ) (os : List (Opening M g)) (i : ℕ) (o : Opening M g) → AreReady plan k os → slice_get os i ≡ Some o → IsReadyFor plan (node_at plan (k + i)) (log_in o) × (IsWanting o → ⊥)
  ready-at plan k [] i o h e = absurd cc
  ready-at plan k (x ∷ os) zero o h e =
      let n : k ≡ k + 0 = omega arith in
      subst (λ (z : Opening M g). IsReadyFor plan (node_at plan (k + 0)) (log_in z) × (IsWanting z → ⊥)) (same_Some _ _ e) (subst (λ (j : ℕ). IsReadyFor plan (node_at plan j) (log_in x) × (IsWanting x → ⊥)) n h.0)
  ready-at plan k (x ∷ os) (suc i) o h e =
      let n : suc k + i ≡ k + suc i = omega arith in
      subst (λ (j : ℕ). IsReadyFor plan (node_at plan j) (log_in o) × (IsWanting o → ⊥)) n (ready-at plan (suc k) os i o h.1 e)

  front-at : (front back : List (Opening M g)) (x : Opening M g) (i : ℕ) → i < length front → (o : Opening M g) × (slice_get front i ≡ Some o) × (slice_get (front ++ x ∷ back) i ≡ Some o)
  front-at [] back x i lt = absurd (omega (arith, lt))
  front-at (y ∷ front) back x zero lt = (y, refl, refl)
  front-at (y ∷ front) back x (suc i) lt = front-at front back x i (omega (arith, lt))

  seam-at : (front back : List (Opening M g)) (x : Opening M g) → slice_get (front ++ x ∷ back) (length front) ≡ Some x
  seam-at [] back x = refl
  seam-at (y ∷ front) back x = seam-at front back x

module _ {M : Type 0} {g : _} (w : Media M) (plan : Plan) (media : List (Option M)) (os : List (Opening M g)) (fault : ResumeFault) (opened : AllZip (HasOpened w) media os) (count : length os ≡ node_count plan) (r : IsFirstRefusal plan os (refusal.Resume fault)) where
  -- an open medium held its log
  held-open : (old : Option M) (o : Opening M g) → HasOpened w old o → IsOpen o → IsTrue w.tells → (m : M) × (old ≡ Some m) × (storage (w.reads m) ≡ Ok (log_in o))
  held-open None (Open store effects) h i t = absurd h
  held-open (Some m) (Open store effects) h i t = (m, refl, h.held t)
  held-open old (Shut medium cause) h i t = absurd i
  held-open old (Wanting medium) h i t = absurd i

  -- where a log shows a fault though its node may go on, the medium failed
  failed-open : (n : NodeId) (old new : M) (o : Opening M g) (log : List Effect) (other : ResumeFault) → IsTrue w.tells → HasOpened w (Some old) o → medium_in o ≡ Some new → IsReadyFor plan n (log_in o) → (IsWanting o → ⊥)
      → storage (w.reads old) ≡ Ok log → fault_in plan n log ≡ Some other → Rose (w.faults old) (w.faults new)
  failed-open n old new (Open store effects) log other t h m ready wanting held shows =
      let e : log ≡ effects.items = ok-same (storage (w.reads old)) held (h.held t) in
      let z : Some other ≡ None = sym shows ∙ (ap (fault_in plan n) e ∙ ready-fault plan n effects.items ready) in
      absurd cc
  failed-open n old new (Shut None cause) log other t h m ready wanting held shows = absurd h
  failed-open n old new (Shut (Some x) down.Medium) log other t h m ready wanting held shows = subst (λ y. Rose (w.faults old) (w.faults y)) (same_Some _ _ m) h.1
  failed-open n old new (Shut (Some x) (down.Damaged page)) log other t h m ready wanting held shows =
      let z : Ok log ≡ Err page = sym held ∙ h.1 t in absurd cc
  failed-open n old new (Shut (Some x) (down.Full pages)) log other t h m ready wanting held shows = absurd h.1
  failed-open n old new (Wanting x) log other t h m ready wanting held shows = absurd (wanting tt)

  here : slice_get os (length r.front) ≡ Some r.one
  here = ap (λ l. slice_get l (length r.front)) r.is ∙ seam-at r.front r.back r.one

  inside : length r.front < node_count plan
  inside = let e = within os (length r.front) r.one here in omega (arith, e, count)
    where
      within : (xs : List (Opening M g)) (i : ℕ) (x : Opening M g) → slice_get xs i ≡ Some x → i < length xs
      within [] i x e = absurd cc
      within (y ∷ xs) zero x e = omega arith
      within (y ∷ xs) (suc i) x e = let h = within xs i x e in omega (arith, h)

  at-broker : (b : ℕ) × (node_at plan (length r.front) ≡ broker b) × (is_within b plan.brokers ≡ true)
  at-broker = broker-at plan (length r.front) (log_in r.one) fault r.refused.1 inside

  place-is : place_of plan (broker at-broker.0) ≡ length r.front
  place-is = ap (place_of plan) (sym at-broker.1) ∙ place-at plan (length r.front)

  -- the first broker that can't go on shows its fault, and no broker before it shows one, unless its medium failed
  pub first-fault : IsFirstFault w plan media (map medium_in os) fault
  first-fault = record {
    some = r.refused.2;
    which = at-broker.0;
    within = at-broker.2;
    shown = λ t. shown t;
    first = λ t b other i lt s old new became. early t b other i lt s old new became;
  }
    where
      shown : IsTrue w.tells → Shows w plan media (map medium_in os) at-broker.0 fault
      shown t =
          let p = zip-back (HasOpened w) media os (length r.front) r.one opened here in
          let m = held-open p.0 r.one p.2 r.refused.0 t in
          (m.0, ap (λ i. inner (slice_get media i)) place-is ∙ (ap inner p.1 ∙ m.1), log_in r.one, m.2, ap (λ n. fault_in plan n (log_in r.one)) (sym at-broker.1) ∙ r.refused.1)

      mapped : (f : Opening M g → Option M) (xs : List (Opening M g)) (i : ℕ) (x : Opening M g) → slice_get xs i ≡ Some x → slice_get (map f xs) i ≡ Some (f x)
      mapped f [] i x e = absurd cc
      mapped f (y ∷ xs) zero x e = ap (λ z. Some (f z)) (same_Some _ _ e)
      mapped f (y ∷ xs) (suc i) x e = mapped f xs i x e

      early : IsTrue w.tells → (b : ℕ) (other : ResumeFault) → is_within b plan.brokers ≡ true → b < at-broker.0 → Shows w plan media (map medium_in os) b other → (old new : M) → Became plan media (map medium_in os) (broker b) old new → Rose (w.faults old) (w.faults new)
      early t b other i lt s old new became =
          let p = at-place plan (broker b) i in
          let before : place_of plan (broker b) < length r.front = (let e = place-is in let some = (in-range b plan.brokers i).0 in omega (arith, e, lt, some)) in
          let o = front-at r.front r.back r.one (place_of plan (broker b)) before in
          let there : slice_get os (place_of plan (broker b)) ≡ Some o.0 = ap (λ l. slice_get l (place_of plan (broker b))) r.is ∙ o.2 in
          let h = zip-back (HasOpened w) media os (place_of plan (broker b)) o.0 opened there in
          let ready = ready-at plan 0 r.front (place_of plan (broker b)) o.0 r.before o.1 in
          let n : 0 + place_of plan (broker b) ≡ place_of plan (broker b) = omega arith in
          let name : node_at plan (0 + place_of plan (broker b)) ≡ broker b = ap (node_at plan) n ∙ p.1 in
          let is-old : h.0 ≡ Some old = sym (ap inner h.1) ∙ became.0 in
          let is-new : medium_in o.0 ≡ Some new = sym (ap inner (mapped medium_in os (place_of plan (broker b)) o.0 there)) ∙ became.1 in
          let same : old ≡ s.0 = same_Some _ _ (sym became.0 ∙ s.1) in
          failed-open (broker b) old new o.0 s.2 other t (subst (λ x. HasOpened w x o.0) is-old h.2) is-new (subst (λ m. IsReadyFor plan m (log_in o.0)) name ready.0) ready.1 (subst (λ m. storage (w.reads m) ≡ Ok s.2) (sym same) s.3) s.4
