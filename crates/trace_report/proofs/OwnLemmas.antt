-- The acts that a broker has begun are its own acts of the plan, and their texts are read as those acts' scripts.
use Rattle.trace_report.proofs.Names.{slice_get, eqb-true, NodeId, broker, Every, Has, ActSpec, block, IsScript, Effect, denote, Plan, CanRun, EachAct, Act, Book, reading, OfAct, Task, tasks, acts_of, own-reading, begun_acts, ◌≡◌, inl, inr, ℕ, zero, suc, ◌+◌, ◌==◌, Bool, true, false, List, [], ◌∷◌, length, refl, sym, ◌∙◌, ap, Option, Some, None, if◌then◌else◌, cond, arith, filter, Started, task_of, counted_by, tasks_of, every-has, sound-kept}
use Rattle.script_form.specs.RowTexts.{script_text}
use Rattle.script_form.proofs.RangeLemmas.{printable-range}
use Rattle.plan_form.proofs.PlanRangeLemmas.{of-whole}

-- ---- places

-- the act with this number
abbrev pub numbered : List ActSpec → ℕ → Option ActSpec
numbered acts zero = None
numbered acts (suc place) = slice_get acts place

-- an act of the plan stands at the place before its index
placed : (repositories brokers n : ℕ) (acts : List ActSpec) (x : ActSpec) → EachAct repositories brokers n acts → Has x acts → (p : ℕ) × (x.index ≡ p + n) × (slice_get acts p ≡ Some x)
placed repositories brokers n [] x h k = absurd k
placed repositories brokers n (a ∷ acts) x h (inl e) =
    let i : x.index ≡ n = sym (ap (λ (y : ActSpec). y.index) e) ∙ h.0.index in
    (0, omega (arith, i), ap (λ (y : ActSpec). Some y) e)
placed repositories brokers n (a ∷ acts) x h (inr k) =
    let q = placed repositories brokers (n + 1) acts x h.1 k in
    let e = q.1 in
    (suc q.0, omega (arith, e), q.2)

pub numbered-is : (plan : Plan) → CanRun plan → (x : ActSpec) → Has x plan.acts → numbered plan.acts x.index ≡ Some x
numbered-is plan w x k =
    let q = placed plan.repositories plan.brokers 1 plan.acts x w.acts k in
    let e = q.1 in
    let i : x.index ≡ suc q.0 = omega (arith, e) in
    ap (numbered plan.acts) i ∙ q.2

-- ---- whose act it is

has-filter : (test : ActSpec → Bool) (acts : List ActSpec) (x : ActSpec) → Has x (filter test acts) → Has x acts × (test x ≡ true)
has-filter test [] x k = absurd k
has-filter test (a ∷ acts) x k = go (test a) refl k (has-filter test acts x)
  where
    go : (c : Bool) → test a ≡ c → Has x (cond c (a ∷ filter test acts) (filter test acts)) → (Has x (filter test acts) → Has x acts × (test x ≡ true)) → Has x (a ∷ acts) × (test x ≡ true)
    go true e (inl s) rest = (inl s, ap test (sym s) ∙ e)
    go true e (inr m) rest = let h = rest m in (inr h.0, h.1)
    go false e m rest = let h = rest m in (inr h.0, h.1)

task-in : (own : List ActSpec) (k : ℕ) (t : Task) → slice_get (tasks own) k ≡ Some t → (x : ActSpec) × Has x own × (t ≡ task_of x)
task-in [] k t h = absurd (let e : ◌≡◌ {A = Option Task} None (Some t) = h in cc)
task-in (a ∷ own) zero t h = (a, inl refl, (let e : Some (task_of a) ≡ Some t = h in let s : task_of a ≡ t = cc in sym s))
task-in (a ∷ own) (suc k) t h = let q = task-in own k t h in (q.0, inr q.1, q.2)

-- it is begun from this act of the plan
pub record IsOwn (plan : Plan) (b : ℕ) (a : Act) : Type 0 where
  pub spec : ActSpec
  pub among : Has spec plan.acts
  pub broker_is : spec.broker ≡ b
  pub task_is : a.task ≡ task_of spec

started-own : (plan : Plan) (b : ℕ) (acts : List Act) → Started (tasks_of plan b) acts → Every (IsOwn plan b) acts
started-own plan b [] h = tt
started-own plan b (a ∷ acts) h =
    let q = task-in (acts_of b plan.acts) (length acts) a.task h.1 in
    let f = has-filter (λ (x : ActSpec). x.broker == b) plan.acts q.0 q.1 in
    (record { spec = q.0; among = f.0; broker_is = eqb-true _ _ f.1; task_is = q.2 }, started-own plan b acts h.0)

every-if : {X : Type 0} (P : X → Type 0) (c : Bool) (xs : List X) → (c ≡ true → Every P xs) → Every P (if c then xs else [])
every-if P true xs h = h refl
every-if P false xs h = tt

module _ (plan : Plan) (logs : NodeId → List Effect) where
  pub begun-own : (b : ℕ) → Every (IsOwn plan b) (begun_acts plan logs b)
  begun-own b =
      let k : Book = counted_by plan b (logs (broker b)) in
      every-if (IsOwn plan b) (k.run == plan.run) k.acts (λ e. started-own plan b k.acts ((sound-kept (reading plan.acts) b plan.run (tasks_of plan b) _).started (eqb-true _ _ e)))

  pub begun-tries : (b : ℕ) → Every OfAct (begun_acts plan logs b)
  begun-tries b =
      let k : Book = counted_by plan b (logs (broker b)) in
      every-if OfAct (k.run == plan.run) k.acts (λ e. (sound-kept (reading plan.acts) b plan.run (tasks_of plan b) _).of_acts (eqb-true _ _ e))

-- ---- its script

pub read-own : (plan : Plan) → CanRun plan → (x : ActSpec) → Has x plan.acts → reading plan.acts (script_text (block x.script.lines)) ≡ denote (block x.script.lines)
read-own plan w x k = every-has (λ (a : ActSpec). reading plan.acts (script_text (block a.script.lines)) ≡ denote (block a.script.lines)) plan.acts x (own-reading plan w) k

-- ---- scripts

pub plan-scripts : (plan : Plan) → CanRun plan → Every (λ (a : ActSpec). IsScript a.script.lines) plan.acts
plan-scripts plan w = of-whole (λ (a : ActSpec). IsScript a.script.lines) plan w (λ k a low high is. printable-range plan.repositories (block a.script.lines) is.script)
