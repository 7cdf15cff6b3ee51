-- Opened media, and nodes that can go on from their logs.
use Rattle.std.specs.declared.vec.Vec.{Vec}
use Rattle.std.specs.declared.alloc.Global.{Global}
use Rattle.run_media.proofs.Names.{◌≡◌, ◌≢◌, ◌≤◌, ◌<◌, ◌==◌, zero, slice_index_or, take, drop, nat_lt, if◌then◌else◌, ◌+◌, ℕ, suc, Bool, true, false, List, [], ◌∷◌, ◌++◌, length, Option, Some, None, is_some, Err, reverse, refl, ap, sym, subst, ◌∙◌, arith, cond, is_none, filter, nat_tests, take_more, length-take-le, AllZip, NodeId, NodeKind, Repository, Broker, Effect, ActSpec, Plan, keep, resume_fault, other_plan, plan_fault, reading, Task, Scripted, tasks, acts_of, is_ready, kind_ready, Opening, kind_fault, fault_in, IsReadyFor, IsRefusalFor, RefusesLog, Refuses, AreReady, FirstRefusal, node_at}
use Rattle.pseudo_time.specs.Lists.{Every}
use Rattle.pseudo_time.specs.declared.down_causes.DownCause.{DownCause}
use Rattle.version_store.specs.declared.stores.Store.{Store}
use Rattle.plan_form.specs.PlanTexts.{CanRun}
use Rattle.serial_model.specs.Questions.{Tree}
use Rattle.broker_core.specs.ResumeFault.{ResumeFault}
use Rattle.broker_core.specs.Book.{book}
use Rattle.broker_core.specs.Brokers.{Opens}
use Rattle.broker_core.specs.ResumeFault.TheVariants as fault
use Rattle.world_core.proofs.OneReading.{own-reading}
use Rattle.run_media.specs.declared.openings.Opening.TheVariants.{Open, Shut}
use Rattle.run_media.specs.declared.openings.Refusal.{Refusal}
use Rattle.run_media.specs.declared.openings.Refusal.TheVariants as refusal

-- ---- lists beside each other

zip-more : {A B : Type 0} (P : A → B → Type 0) (xs : List A) (ys : List B) (x : A) (y : B) → AllZip P xs ys → P x y → AllZip P (xs ++ x ∷ []) (ys ++ y ∷ [])
zip-more P [] [] x y h one = (one, tt)
zip-more P [] (b ∷ ys) x y h one = absurd h
zip-more P (a ∷ xs) [] x y h one = absurd h
zip-more P (a ∷ xs) (b ∷ ys) x y h one = (h.0, zip-more P xs ys x y h.1 one)

-- one pair more, where the lists are given by their equations
pub zip-joined : {A B : Type 0} (P : A → B → Type 0) (old xs : List A) (new ys : List B) (x : A) (y : B) → old ≡ xs ++ x ∷ [] → new ≡ ys ++ y ∷ [] → AllZip P xs ys → P x y → AllZip P old new
zip-joined P old xs new ys x y o n h one = subst (λ l. AllZip P l new) (sym o) (subst (λ l. AllZip P (xs ++ x ∷ []) l) (sym n) (zip-more P xs ys x y h one))

-- ---- acts

every-filter : {X : Type 0} (P : X → Type 0) (test : X → Bool) (xs : List X) → Every P xs → Every P (filter test xs)
every-filter P test [] h = tt
every-filter P test (x ∷ xs) h = go (test x) (every-filter P test xs h.1)
  where
    go : (t : Bool) → Every P (filter test xs) → Every P (cond t (x ∷ filter test xs) (filter test xs))
    go true rest = (h.0, rest)
    go false rest = rest

-- the reading of a plan's acts reads those of each broker
pub reads-own : (plan : Plan) (number : ℕ) → CanRun plan → Scripted (reading plan.acts) (acts_of number plan.acts)
reads-own plan number w = every-filter _ _ plan.acts (own-reading plan w)

-- ---- logs

none-ready : (o : Option ResumeFault) → o ≡ None → is_none o ≡ true
none-ready None e = refl
none-ready (Some f) e = absurd cc

-- a log without a fault is one to go on from
pub ready-of : (plan : Plan) (n : NodeId) (log : List Effect) → fault_in plan n log ≡ None → IsReadyFor plan n log
unfolding is_ready
ready-of plan n log e = go n.kind n.number e
  where
    go : (k : NodeKind) (i : ℕ) → kind_fault plan k i log ≡ None → kind_ready (reading plan.acts) plan.run plan.acts k i log ≡ true
    go Repository i e = refl
    go Broker i e = none-ready _ e

fresh-fault : (s : List ℕ → Tree) (b r : ℕ) (ts : List Task) → 1 ≤ r → resume_fault s b r ts [] ≡ None
unfolding keep book
fresh-fault s b r ts some = by (nat_lt r 0) (0 == r) refl refl
  where
    by : (x y : Bool) → nat_lt r 0 ≡ x → (0 == r) ≡ y → (if x then Some (fault.OldRun 0) else (if y then plan_fault (other_plan s b r ts []) else None)) ≡ None
    by true y e f = let h : r < 0 = grind (arith, nat_tests) in absurd (omega (arith, h))
    by false true e f = let h : 0 ≡ r = grind (arith, nat_tests) in absurd (omega (arith, h, some))
    by false false e f = refl

-- a log without effects refuses no plan
pub blank-refuses : (plan : Plan) (number : ℕ) (log : List Effect) → CanRun plan → length log ≡ 0 → RefusesLog plan number log None
blank-refuses plan number [] w none = fresh-fault (reading plan.acts) number plan.run (tasks (acts_of number plan.acts)) w.run.0
blank-refuses plan number (f ∷ log) w none = absurd (let some : suc (length log) ≡ 0 = none in omega (arith, some))

-- an empty log is one to go on from
pub fresh-ready : (plan : Plan) (n : NodeId) → CanRun plan → IsReadyFor plan n []
fresh-ready plan n w = ready-of plan n [] (go n.kind n.number)
  where
    go : (k : NodeKind) (i : ℕ) → kind_fault plan k i [] ≡ None
    go Repository i = refl
    go Broker i = fresh-fault (reading plan.acts) i plan.run (tasks (acts_of i plan.acts)) w.run.0

-- ---- nodes

-- one more that can go on
pub ready-more : {M : Type 0} {g : _} (plan : Plan) (k : ℕ) (xs : List (Opening M g)) (x : Opening M g) → AreReady plan k xs → Refuses plan (node_at plan (k + length xs)) x None → AreReady plan k (xs ++ x ∷ [])
ready-more plan k [] x h one = (subst (λ (i : ℕ). Refuses plan (node_at plan i) x None) (omega arith) one, tt)
ready-more plan k (y ∷ xs) x h one = (h.0, ready-more plan (suc k) xs x h.1 (subst (λ (i : ℕ). Refuses plan (node_at plan i) x None) (omega arith) one))

-- ---- refusals

pub split-at : {T : Type 0} (xs : List T) (i : ℕ) (x : T) → i < length xs → x ≡ slice_index_or xs i x → xs ≡ take i xs ++ x ∷ drop (i + 1) xs
split-at [] i x lt e = absurd (omega (arith, lt))
split-at (y ∷ xs) zero x lt e = ap (λ z. z ∷ xs) (sym e)
split-at (y ∷ xs) (suc i) x lt e =
    let n : i + 1 ≡ suc i = omega arith in
    let m : suc i + 1 ≡ suc (suc i) = omega arith in
    ap (λ l. y ∷ l) (split-at xs i x (omega (arith, lt)) e) ∙ (ap (λ j. y ∷ (take i xs ++ x ∷ drop j xs)) n ∙ ap (λ j. y ∷ (take i xs ++ x ∷ drop j (y ∷ xs))) (sym m))

module _ {M : Type 0} {g : _} (plan : Plan) (n : NodeId) (o : Opening M g) where
  pub refuses-shut : (medium : Option M) (cause : DownCause) → o ≡ Shut medium cause → CanRun plan → Refuses plan n o None
  refuses-shut medium cause is w = subst (λ (x : Opening M g). Refuses plan n x None) (sym is) (fresh-ready plan n w, λ x. x)

  pub refuses-repository : (store : Store M g) (effects : Vec Effect Global) → o ≡ Open store effects → n.kind ≡ Repository → Refuses plan n o None
  refuses-repository store effects is kind =
      subst (λ (x : Opening M g). Refuses plan n x None) (sym is) (ready-of plan n effects.items (ap (λ (k : NodeKind). kind_fault plan k n.number effects.items) kind), λ x. x)

  -- a broker's log, told of its node
  pub refuses-broker : (store : Store M g) (effects : Vec Effect Global) (log : List Effect) (r : Option Refusal) → o ≡ Open store effects → log ≡ effects.items → n.kind ≡ Broker → RefusesLog plan n.number log r → Refuses plan n o r
  refuses-broker store effects log r is same kind e = subst (λ (x : Opening M g). Refuses plan n x r) (sym is) (go r (subst (λ (l : List Effect). RefusesLog plan n.number l r) same e))
    where
      go : (r : Option Refusal) → RefusesLog plan n.number effects.items r → Refuses plan n (Open store effects) r
      go None e = (ready-of plan n effects.items (subst (λ (k : NodeKind). kind_fault plan k n.number effects.items ≡ None) (sym kind) e), λ x. x)
      go (Some refusal.NoMemory) e = tt
      go (Some (refusal.Resume f)) e = (tt, subst (λ (k : NodeKind). kind_fault plan k n.number effects.items ≡ Some f) (sym kind) e.0, e.1)

-- what opening a broker says of its log where it doesn't answer because memory ran out
pub opens-fault : (s : List ℕ → Tree) (number run : ℕ) (acts : List ActSpec) (log : List Effect) (f : ResumeFault) → f ≢ fault.NoMemory → Opens s number run acts log (Err f) → resume_fault s number run (tasks acts) (reverse log) ≡ Some f
opens-fault s number run acts log fault.NoMemory other h = absurd (other refl)
opens-fault s number run acts log (fault.OldRun n) other h = h
opens-fault s number run acts log (fault.OtherPlan i) other h = h

pub refuses-err : (plan : Plan) (number : ℕ) (acts : List ActSpec) (log : List Effect) (f : ResumeFault) (r : Refusal) → acts ≡ acts_of number plan.acts → IsRefusalFor f r → Opens (reading plan.acts) number plan.run acts log (Err f) → RefusesLog plan number log (Some r)
refuses-err plan number acts log f refusal.NoMemory own is h = tt
refuses-err plan number acts log f (refusal.Resume told) own is h =
    let e : resume_fault (reading plan.acts) number plan.run (tasks acts) (reverse log) ≡ Some f = opens-fault (reading plan.acts) number plan.run acts log f is.1 h in (
      subst (λ (a : List ActSpec). resume_fault (reading plan.acts) number plan.run (tasks a) (reverse log) ≡ Some told) own (e ∙ ap (λ (k : ResumeFault). Some k) (sym is.0)),
      λ n. is.1 (sym is.0 ∙ n),
    )

-- nothing refuses
pub none-found : (o : Option Refusal) → is_some o ≡ false → o ≡ None
none-found None e = refl
none-found (Some why) e = absurd cc

pub some-found : (o : Option Refusal) → is_some o ≡ true → (why : Refusal) × (o ≡ Some why)
some-found None e = absurd cc
some-found (Some why) e = (why, refl)

module _ {M : Type 0} {g : _} (plan : Plan) (os : List (Opening M g)) (i : ℕ) (o : Opening M g) (n : NodeId) (found : Option Refusal) (inside : i < length os) (read : o ≡ slice_index_or os i o) (here : n ≡ node_at plan i) (says : Refuses plan n o found)
    (before : AreReady plan 0 (take i os)) where
  front-size : length (take i os) ≡ i
  front-size = length-take-le i os (omega (arith, inside))

  at-front : Refuses plan (node_at plan (length (take i os))) o found
  at-front = subst (λ (j : ℕ). Refuses plan (node_at plan j) o found) (sym front-size) (subst (λ (m : NodeId). Refuses plan m o found) here says)

  at-sum : Refuses plan (node_at plan (0 + length (take i os))) o found
  at-sum = let n : length (take i os) ≡ 0 + length (take i os) = omega arith in subst (λ (j : ℕ). Refuses plan (node_at plan j) o found) n at-front

  pub goes-on : is_some found ≡ false → AreReady plan 0 (take (i + 1) os)
  goes-on none =
      subst (AreReady plan 0) (ap (λ (x : Opening M g). take i os ++ x ∷ []) read ∙ sym (take_more os i o inside))
      (ready-more plan 0 (take i os) o before (subst (λ (r : Option Refusal). Refuses plan (node_at plan (0 + length (take i os))) o r) (none-found found none) at-sum))

  pub stops-here : is_some found ≡ true → FirstRefusal plan os found
  stops-here some =
      let w = some-found found some in
      subst (FirstRefusal plan os) (sym w.1) (record {
        front = take i os;
        one = o;
        back = drop (i + 1) os;
        is = split-at os i o inside read;
        before = before;
        refused = subst (λ (r : Option Refusal). Refuses plan (node_at plan (length (take i os))) o r) w.1 at-front;
      })
