-- What the acts of brokers have together: no more attempts than the plan allows, each with as many answers as its script has requests.
use Rattle.complete_law.proofs.Names.{Every, ActSpec, Answer, Got, Stored, Stop, Asks, Over, Tree, Ends, Says, Reads, Writes, stop, Task, tasks, Act, Try, Started, AsksAtMost, tries_in, ◌≡◌, ℕ, zero, suc, ◌+◌, ◌*◌, ◌≤◌, Bool, true, false, length, List, [], ◌∷◌, refl, ap, Some, None, if◌then◌else◌, arith, slice_get, filter, AreKinds}
use Rattle.complete_law.proofs.Sizes.{IsSpare, end-one, size-act, size-tries, spent-one}

-- ---- numbers

pub mul-mono : (a b c : ℕ) → a ≤ b → a * c ≤ b * c
mul-mono zero b c h = omega arith
mul-mono (suc a) zero c h = absurd (omega (arith, h))
mul-mono (suc a) (suc b) c h = let k = mul-mono a b c (omega (arith, h)) in omega (arith, k)

pub mul-plus : (x y m : ℕ) → (x + y) * m ≡ x * m + y * m
mul-plus zero y m = omega arith
mul-plus (suc x) y m = let k = mul-plus x y m in omega (arith, k)

-- ---- answers

-- an attempt that stands at a request has one answer fewer than its script has requests
abbrev pub asking-one : Stop → ℕ
asking-one (Asks q) = 1
asking-one (Over e) = 0

got-kinds : (o : _) (k : _ → Tree) (v : _) (ans : List Answer) → AreKinds (Reads o k) (Got v ∷ ans) → AreKinds (k v) ans
got-kinds o k v ans h pre post a e = h (Got v ∷ pre) post a (ap (λ z. Got v ∷ z) e)

stored-kinds : (o : _) (v : _) (t : Tree) (ans : List Answer) → AreKinds (Writes o v t) (Stored ∷ ans) → AreKinds t ans
stored-kinds o v t ans h pre post a e = h (Stored ∷ pre) post a (ap (λ z. Stored ∷ z) e)

pub answers-few : (n : ℕ) (t : Tree) (ans : List Answer) → AsksAtMost n t → AreKinds t ans → length ans + asking-one (stop t ans) ≤ n
answers-few n (Ends e) [] h k = omega arith
answers-few n (Ends e) (a ∷ ans) h k = absurd (k [] ans a refl)
answers-few n (Says v t) ans h k = answers-few n t ans h k
answers-few (suc n) (Reads o t) (Got v ∷ ans) h k = let m = answers-few n (t v) ans (h v) (got-kinds o t v ans k) in omega (arith, m)
answers-few (suc n) (Reads o t) (Stored ∷ ans) h k = absurd (k [] ans Stored refl)
answers-few zero _ ans h k = absurd h
answers-few (suc n) _ [] h k = omega arith
answers-few (suc n) (Writes o v t) (Got w ∷ ans) h k = absurd (k [] ans (Got w) refl)
answers-few (suc n) (Writes o v t) (Stored ∷ ans) h k = let m = answers-few n t ans h (stored-kinds o v t ans k) in omega (arith, m)

-- ---- attempts

abbrev pub tries-allowed : List Act → ℕ
tries-allowed [] = 0
tries-allowed (a ∷ as') = a.task.tries + tries-allowed as'

abbrev pub tries-given : List Task → ℕ
tries-given [] = 0
tries-given (t ∷ ts) = t.tries + tries-given ts

-- of the first n of them
abbrev first-given : ℕ → List Task → ℕ
first-given zero ts = 0
first-given (suc n) [] = 0
first-given (suc n) (t ∷ ts) = t.tries + first-given n ts

first-next : (n : ℕ) (ts : List Task) (x : Task) → slice_get ts n ≡ Some x → first-given (suc n) ts ≡ x.tries + first-given n ts
first-next n [] x e = absurd (cc e)
first-next zero (t ∷ ts) x e = let is : t ≡ x = cc e in let k : t.tries ≡ x.tries = ap (λ (z : Task). z.tries) is in omega (arith, k)
first-next (suc n) (t ∷ ts) x e = let k = first-next n ts x e in omega (arith, k)

first-few : (n : ℕ) (ts : List Task) → first-given n ts ≤ tries-given ts
first-few zero ts = omega arith
first-few (suc n) [] = omega arith
first-few (suc n) (t ∷ ts) = let k = first-few n ts in omega (arith, k)

started-first : (ts : List Task) (as' : List Act) → Started ts as' → tries-allowed as' ≤ first-given (length as') ts
started-first ts [] s = omega arith
started-first ts (a ∷ as') s = let k = started-first ts as' s.0 in let j = first-next (length as') ts a.task s.1 in omega (arith, k, j)

pub started-few : (ts : List Task) (as' : List Act) → Started ts as' → tries-allowed as' ≤ tries-given ts
started-few ts as' s = let k = started-first ts as' s in let j = first-few (length as') ts in omega (arith, k, j)

pub tasks-few : (test : ActSpec → Bool) (acts : List ActSpec) → tries-given (tasks (filter test acts)) ≤ tries_in acts
tasks-few test [] = omega arith
tasks-few test (a ∷ acts) = go (test a) (tasks-few test acts)
  where
    go : (c : Bool) → tries-given (tasks (filter test acts)) ≤ tries_in acts → tries-given (tasks (if c then a ∷ filter test acts else filter test acts)) ≤ a.tries + tries_in acts
    go true k = omega (arith, k)
    go false k = omega (arith, k)

-- ---- weights

-- what each act has of these, all have together
pub acts-share : (f : Act → ℕ) (m : ℕ) (as' : List Act) → Every (λ (a : Act). f a ≤ a.task.tries * m) as' → (g : List Act → ℕ) → (g [] ≡ 0) → ((a : Act) (more : List Act) → g (a ∷ more) ≡ f a + g more) → g as' ≤ tries-allowed as' * m
acts-share f m [] h g z s = omega (arith, z)
acts-share f m (a ∷ as') h g z s = omega (arith, acts-share f m as' h.1 g z s, s a as', mul-plus a.task.tries (tries-allowed as') m, h.0)

tries-size : (q : ℕ) (ts : List Try) → Every (λ (t : Try). length t.answers ≤ q) ts → size-tries ts ≤ length ts * (q + 2)
tries-size q [] h = omega arith
tries-size q (t ∷ ts) h = let k = tries-size q ts h.1 in let j = (elim t.end as (λ o. end-one o ≤ 1) [ None ↦ omega arith | Some x ↦ omega arith ]) in let i : length t.answers ≤ q = h.0 in omega (arith, k, j, i)

pub act-size : (q : ℕ) (a : Act) → 1 ≤ a.task.tries → IsSpare a → Every (λ (t : Try). length t.answers ≤ q) a.tries → size-act a ≤ a.task.tries * (q + 3)
act-size q a low spare h =
    let l : length a.tries + spent-one a.spent ≤ a.task.tries = omega (arith, spare, low) in
    let r = (elim a.spent as (λ o. spent-one o ≤ spent-one o * (q + 2)) [ None ↦ omega arith | Some x ↦ omega arith ]) in
    omega (arith, tries-size q a.tries h, mul-mono (length a.tries + spent-one a.spent) a.task.tries (q + 2) l, mul-plus (length a.tries) (spent-one a.spent) (q + 2), r, grow a.task.tries q, low)
  where
    grow : (n q : ℕ) → n * (q + 3) ≡ n * (q + 2) + n
    grow zero q = omega arith
    grow (suc n) q = let k = grow n q in omega (arith, k)
