-- Where its broker has begun all acts, and each has an outcome, an act is shown with its outcome.
use Rattle.run_command.proofs.Names.{eqb-true, nat_tests, length-append, length-map, reverse-append, Every, Has, broker, NodeId, Effect, Outcome, Plan, InRange, CanRun, Act, Book, Try, reading, counted_by, shown_end, tasks_of, HasOutcome, AllBegun, every-has, ◌≡◌, ◌+◌, ◌-◌, ◌≤◌, ◌<◌, ◌∙◌, ◌++◌, ◌==◌, nat_lt, ℕ, zero, suc, Bool, true, false, List, [], ◌∷◌, Option, Some, None, length, map, reverse, slice_get, inl, inr, refl, ap, sym, subst, arith, if◌then◌else◌, cond, filter, eq-eqb, length-reverse, map-append, reverse-reverse, slice_get_within, same_Some, EachAct, act_begun, act_shown, act_with, acts_shown, begun_acts, tries_shown, try_shown, IsOver, has-reverse, sound-kept, IsFinal, IsFinished}
use Rattle.value_form.specs.declared.acts.ActSpec.{ActSpec}
use Rattle.effect_form.specs.declared.outcomes.Outcome.TheVariants as ended
use Rattle.serial_model.specs.Questions.{Tree}
use Rattle.broker_core.specs.Sound.{Started}
use Rattle.broker_core.specs.Tasks.{Task, task_of}
use Rattle.world_core.specs.Nodes.{acts_of}
use Rattle.report_writer.specs.declared.records.ActReport.{ActReport}
use Rattle.report_writer.specs.declared.records.TryReport.{TryReport}
use Rattle.report_writer.specs.declared.records.TryOutcome.{TryOutcome}
use Rattle.report_writer.specs.declared.records.ActOutcome.{ActOutcome}
use Rattle.report_writer.specs.declared.records.ActOutcome.TheVariants as standing
use Rattle.report_writer.specs.Standings.{count_of, last_outcome, outcome_in, same, standing_after, standing_of, standing_where}
use Rattle.complete_law.proofs.Growths.{has-at, map-has, filter-has, has-filter, has-map}

-- ---- lists and places

has-place : {A : Type 0} (xs : List A) (i : ℕ) (x : A) → slice_get xs i ≡ Some x → Has x xs
has-place [] i x h = absurd cc
has-place (y ∷ xs) zero x h = inl (same_Some _ _ h)
has-place (y ∷ xs) (suc i) x h = inr (has-place xs i x h)

-- ---- lists the other way round

unreversed : {A : Type 0} (xs : List A) (x : A) → Has x (reverse xs) → Has x xs
unreversed xs x h = subst (Has x) (reverse-reverse xs) (has-reverse (reverse xs) x h)

-- ---- acts of a plan

-- an act stands where its index says
index-at : (repositories brokers n : ℕ) (acts : List ActSpec) (i : ℕ) (a : ActSpec) → EachAct repositories brokers n acts → slice_get acts i ≡ Some a → a.index ≡ n + i
index-at repositories brokers n [] i a each h = absurd cc
index-at repositories brokers n (x ∷ acts) zero a each h = let e : x.index ≡ a.index = ap (λ (y : ActSpec). y.index) (same_Some _ _ h) in let k = each.0.index in omega (arith, e, k)
index-at repositories brokers n (x ∷ acts) (suc i) a each h = let k = index-at repositories brokers (n + 1) acts i a each.1 h in omega (arith, k)

one-index : (plan : Plan) → CanRun plan → (a b : ActSpec) → Has a plan.acts → Has b plan.acts → a.index ≡ b.index → a ≡ b
one-index plan lang a b h k e =
    let i = has-at plan.acts a h in
    let j = has-at plan.acts b k in
    let x = index-at plan.repositories plan.brokers 1 plan.acts i.0 a lang.acts i.1 in
    let y = index-at plan.repositories plan.brokers 1 plan.acts j.0 b lang.acts j.1 in
    let z : i.0 ≡ j.0 = omega (arith, x, y, e) in
    same_Some _ _ (sym i.1 ∙ (ap (slice_get plan.acts) z ∙ j.1))

-- ---- acts that were begun

-- each act that was begun is one of the tasks
begun-task : (ts : List Task) (acts : List Act) (a : Act) → Started ts acts → Has a acts → Has a.task ts
begun-task ts [] a s h = absurd h
begun-task ts (x ∷ acts) a s (inl e) = has-place ts (length acts) a.task (s.1 ∙ ap (λ (y : Act). Some y.task) e)
begun-task ts (x ∷ acts) a s (inr h) = begun-task ts acts a s.0 h

-- each task before their number was begun
task-begun : (ts : List Task) (acts : List Act) (i : ℕ) (t : Task) → Started ts acts → i < length acts → slice_get ts i ≡ Some t → (a : Act) × Has a acts × (a.task ≡ t)
task-begun ts [] i t s lt h = absurd (omega (arith, lt))
task-begun ts (x ∷ acts) i t s lt h = by (λ below. task-begun ts acts i t s.0 below h) (nat_lt i (length acts)) refl
  where
    by : (i < length acts → (a : Act) × Has a acts × (a.task ≡ t)) → (c : Bool) → nat_lt i (length acts) ≡ c → (a : Act) × Has a (x ∷ acts) × (a.task ≡ t)
    by before true e = let k = before (grind (arith, nat_tests)) in (k.0, inr k.1, k.2)
    by before false e =
        let high : length acts ≤ i = grind (arith, nat_tests) in
        let z : length acts ≡ i = omega (arith, high, lt) in
        (x, inl refl, same_Some _ _ (sym s.1 ∙ (ap (slice_get ts) z ∙ h)))

-- the first act with an index is there
first-begun : (i : ℕ) (acts : List Act) (a : Act) → Has a acts → a.task.index ≡ i → (b : Act) × (act_begun i acts ≡ Some b) × Has b acts × (b.task.index ≡ i)
first-begun i [] a h e = absurd h
first-begun i (x ∷ acts) a h e = by (λ k. first-begun i acts a k e) (x.task.index == i) refl
  where
    there : (x.task.index == i) ≡ false → Has a (x ∷ acts) → Has a acts
    there f (inl q) = absurd (let z : true ≡ false = sym (eq-eqb x.task.index i (ap (λ (y : Act). y.task.index) q ∙ e)) ∙ f in cc z)
    there f (inr k) = k

    by : (Has a acts → (b : Act) × (act_begun i acts ≡ Some b) × Has b acts × (b.task.index ≡ i)) → (c : Bool) → (x.task.index == i) ≡ c → (b : Act) × (act_begun i (x ∷ acts) ≡ Some b) × Has b (x ∷ acts) × (b.task.index ≡ i)
    by later true f = (x, ap (λ (t : Bool). if t then Some x else act_begun i acts) f, inl refl, eqb-true x.task.index i f)
    by later false f =
        let k = later (there f h) in
        (k.0, ap (λ (t : Bool). if t then Some x else act_begun i acts) f ∙ k.1, inr k.2, k.3)

-- ---- how an act is shown

last-shown : (script : List ℕ → Tree) (t : Try) (ts : List Try) → last_outcome (map (try_shown script) (reverse (t ∷ ts))) ≡ shown_end t.end
last-shown script t ts =
    ap last_outcome (ap (map (try_shown script)) (reverse-append (t ∷ []) ts) ∙ map-append (try_shown script) (reverse ts) (t ∷ []))
    ∙ ap outcome_in (last-at (map (try_shown script) (reverse ts)) (try_shown script t))
  where
    behind : {A : Type 0} (xs : List A) (x : A) → slice_get (xs ++ x ∷ []) (length xs) ≡ Some x
    behind [] x = refl
    behind (y ∷ xs) x = behind xs x

    last-at : {A : Type 0} (xs : List A) (x : A) → slice_get (xs ++ x ∷ []) (length (xs ++ x ∷ []) - 1) ≡ Some x
    last-at xs x =
        let n = length-append xs (x ∷ []) in
        let z : length (xs ++ x ∷ []) - 1 ≡ length xs = omega (arith, n) in
        ap (slice_get (xs ++ x ∷ [])) z ∙ behind xs x

module _ (script : List ℕ → Tree) (a : ActSpec) (begun : Act) (allowed : begun.task.tries ≡ a.tries) where
  abbrev shown : List TryReport
  shown = map (try_shown script) (reverse begun.tries)

  abbrev is_last : Bool
  is_last = if nat_lt (length shown) a.tries then false else true

  count : length shown ≡ length begun.tries
  count = length-map (reverse begun.tries) (try_shown script) ∙ length-reverse begun.tries

  last-one : begun.task.tries ≤ length begun.tries → is_last ≡ true
  last-one h = by (nat_lt (length shown) a.tries) refl
    where
      by : (t : Bool) → nat_lt (length shown) a.tries ≡ t → (if t then false else true) ≡ true
      by true e = absurd (let c = count in let lt : length shown < a.tries = grind (arith, nat_tests) in omega (arith, lt, c, h, allowed))
      by false e = refl

  final-after : (o : Outcome) → IsOver begun o → IsFinal (standing_after is_last (shown_end (Some o)))
  final-after (ended.LaterRead o e) over = subst (λ (t : Bool). IsFinal (if t then standing.Refused else standing.Open)) (sym (last-one over)) tt
  final-after (ended.LaterVersion o x) over = subst (λ (t : Bool). IsFinal (if t then standing.Refused else standing.Open)) (sym (last-one over)) tt
  final-after (ended.Expired d m) over = absurd over
  final-after (ended.Spent c) over = absurd over
  final-after o over = tt

  finished-as : HasOutcome begun → IsFinished (act_with script a (Some begun))
  finished-as h = by begun.spent refl
    where
      ended-as : HasOutcome begun → begun.spent ≡ None → IsFinal (standing_after is_last (last_outcome shown))
      ended-as (inl k) none = absurd (let z : Some k.0 ≡ None = sym k.1 ∙ none in cc z)
      ended-as (inr (t, ts, o, is, end, over)) none =
          let e : last_outcome shown ≡ shown_end (Some o) = ap (λ (us : List Try). last_outcome (map (try_shown script) (reverse us))) is ∙ (last-shown script t ts ∙ ap shown_end end) in
          subst (λ (x : TryOutcome). IsFinal (standing_after is_last x)) (sym e) (final-after o over)

      by : (s : Option ℕ) → begun.spent ≡ s → IsFinished (act_with script a (Some begun))
      by (Some c) e = subst (λ (x : Option ℕ). IsFinal (standing_where x is_last (last_outcome shown))) (sym e) tt
      by None e = subst (λ (x : Option ℕ). IsFinal (standing_where x is_last (last_outcome shown))) (sym e) (ended-as h e)

-- ---- a plan whose brokers are done

broker-at : (repositories brokers n : ℕ) (acts : List ActSpec) (a : ActSpec) → EachAct repositories brokers n acts → Has a acts → InRange brokers a.broker
broker-at repositories brokers n [] a each h = absurd h
broker-at repositories brokers n (x ∷ acts) a each (inl e) = subst (λ (y : ActSpec). InRange brokers y.broker) e each.0.broker
broker-at repositories brokers n (x ∷ acts) a each (inr h) = broker-at repositories brokers (n + 1) acts a each.1 h

every-mapped : {A B : Type 0} (P : B → Type 0) (f : A → B) (xs : List A) → ((x : A) → Has x xs → P (f x)) → Every P (map f xs)
every-mapped P f [] h = tt
every-mapped P f (x ∷ xs) h = (h x (inl refl), every-mapped P f xs (λ y k. h y (inr k)))

module _ (plan : Plan) (lang : CanRun plan) (logs : NodeId → List Effect) where
  abbrev book_of : ℕ → Book
  book_of b = counted_by plan b (logs (broker b))

  -- an act as its broker began it
  record IsBegunAs (a : ActSpec) (act : Act) : Type 0 where
    found : act_begun a.index (begun_acts plan logs a.broker) ≡ Some act
    tries : act.task.tries ≡ a.tries
    here : Has act (book_of a.broker).acts

  begun-as : (a : ActSpec) → Has a plan.acts → AllBegun plan a.broker (book_of a.broker) → (act : Act) × IsBegunAs a act
  begun-as a h begun = by begun
    where
      b : ℕ
      b = a.broker

      ts : List Task
      ts = tasks_of plan b

      there : Has (task_of a) ts
      there = has-map task_of (acts_of b plan.acts) a (has-filter (λ (x : ActSpec). x.broker == b) plan.acts a h (eq-eqb a.broker a.broker refl))

      by : AllBegun plan a.broker (book_of a.broker) → (act : Act) × IsBegunAs a act
      by (inl none) = absurd (subst (Has (task_of a)) none there)
      by (inr (run, count)) =
          let acts = (book_of b).acts in
          let started = (sound-kept (reading plan.acts) b plan.run ts (reverse (logs (broker b)))).started run in
          let i = has-at ts (task_of a) there in
          let within = slice_get_within ts i.0 (task_of a) i.1 in
          let k = task-begun ts acts i.0 (task_of a) started (omega (arith, within, count)) i.1 in
          let f = first-begun a.index acts k.0 k.1 (ap (λ (t : Task). t.index) k.2) in
          let m = map-has task_of (acts_of b plan.acts) f.0.task (begun-task ts acts f.0 started f.2) in
          let one = one-index plan lang m.0 a (filter-has (λ (x : ActSpec). x.broker == b) plan.acts m.0 m.1) h (ap (λ (t : Task). t.index) m.2 ∙ f.3) in (
            f.0,
            record {
              found = ap (act_begun a.index) (ap (λ (t : Bool). if t then acts else []) (eq-eqb (book_of b).run plan.run run)) ∙ f.1;
              tries = ap (λ (t : Task). t.tries) (sym m.2) ∙ ap (λ (x : ActSpec). x.tries) one;
              here = f.2;
            },
          )

  module _ (done : (b : ℕ) → InRange plan.brokers b → AllBegun plan b (book_of b) × Every HasOutcome (book_of b).acts) where
    abbrev within : (a : ActSpec) → Has a plan.acts → InRange plan.brokers a.broker
    within a h = broker-at plan.repositories plan.brokers 1 plan.acts a lang.acts h

    pub all-finished : Every IsFinished (acts_shown plan logs)
    all-finished = every-mapped IsFinished (act_shown plan logs) plan.acts (λ a h.
        let d = done a.broker (within a h) in
        let k = begun-as a h d.0 in
        subst (λ (o : Option Act). IsFinished (act_with (reading plan.acts) a o)) (sym k.1.found) (finished-as (reading plan.acts) a k.0 k.1.tries (every-has HasOutcome (book_of a.broker).acts k.0 d.1 k.1.here)))

    -- what holds of each attempt of each act that was begun holds of each that is shown
    pub all-tries : (P : TryOutcome → Type 0) → ((b : ℕ) → InRange plan.brokers b → Every (λ (act : Act). Every (λ (t : Try). P (shown_end t.end)) act.tries) (book_of b).acts)
        → Every (λ (a : ActReport). Every (λ (t : TryReport). P t.outcome) a.tries) (acts_shown plan logs)
    all-tries P each = every-mapped _ (act_shown plan logs) plan.acts (λ a h.
        let k = begun-as a h (done a.broker (within a h)).0 in
        subst (λ (o : Option Act). Every (λ (t : TryReport). P t.outcome) (tries_shown (reading plan.acts) o)) (sym k.1.found)
        (every-mapped (λ (t : TryReport). P t.outcome) (try_shown (reading plan.acts)) (reverse k.0.tries) (λ t is. every-has (λ (u : Try). P (shown_end u.end)) k.0.tries t (every-has (λ (act : Act). Every (λ (u : Try). P (shown_end u.end)) act.tries) (book_of a.broker).acts k.0 (each a.broker (within a h)) k.1.here) (unreversed k.0.tries t is))))

-- where all are finished none is open
pub none-open : (acts : List ActReport) → Every IsFinished acts → count_of standing.Open acts ≡ 0
none-open [] h = refl
none-open (a ∷ acts) h = by (none-open acts h.1) (standing_of a) refl h.0
  where
    skip : count_of standing.Open acts ≡ 0 → same standing.Open (standing_of a) ≡ false → count_of standing.Open (a ∷ acts) ≡ 0
    skip rest e = ap (λ (t : Bool). length (cond t (a ∷ filter (λ (x : ActReport). same standing.Open (standing_of x)) acts) (filter (λ (x : ActReport). same standing.Open (standing_of x)) acts))) e ∙ rest

    by : count_of standing.Open acts ≡ 0 → (s : ActOutcome) → standing_of a ≡ s → IsFinal s → count_of standing.Open (a ∷ acts) ≡ 0
    by rest standing.Expired e f = absurd f
    by rest standing.Open e f = absurd f
    by rest x e f = skip rest (ap (same standing.Open) e)
