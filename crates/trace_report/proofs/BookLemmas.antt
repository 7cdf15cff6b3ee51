-- What is read off a broker's log, by which of its effects count, is what its book has of this run.
use Rattle.trace_report.proofs.Names.{◌-◌, cond-true, cond-false, NodeId, Broker, broker, StampParts, ActSpec, Effect, Answer, Got, Stored, Tree, Plan, CanRun, Act, Try, Book, book, keep, AreBrokerActs, reading, Task, tasks, Scripted, acts_of, own-reading, begun_acts, act_parts, try_parts, begun_to, begun_last, ◌≡◌, ℕ, zero, suc, ◌≤◌, ◌==◌, Bool, true, false, List, [], ◌∷◌, ◌++◌, append_assoc, append-nil, length, map, reverse, refl, sym, ◌∙◌, ap, subst, if◌then◌else◌, arith, Some, length-reverse, enter, close, on_act, on_front, on_try, gain, finish, new_try, fits, counts, add_if, acts_in, entered, closed, tried, spent_by, on_first, on_last, gained, ended, entered_if, read_off, closed-run, plan-own_acts}
use Rattle.effect_form.specs.declared.effects.Effect.TheVariants as effect
use Rattle.effect_form.specs.declared.outcomes.Outcome.{Outcome}
use Rattle.effect_form.specs.declared.outcomes.Outcome.TheVariants as outcome
use Rattle.broker_core.specs.Counted.{counted, counts_now, counting}
use Rattle.trace_logs.proofs.ReplayedNodeLemmas.{own-scripted}

-- ---- what an effect changes of the acts at hand

tried-is : (s : StampParts) (acts : List Act) → tried s (map act_parts acts) ≡ map act_parts (on_act (λ a. record a { tries = new_try a s ∷ a.tries }) acts)
tried-is s [] = refl
tried-is s (a ∷ acts) = refl

gained-tries : (x : Answer) (ts : List Try) → on_first (gained x) (map try_parts ts) ≡ map try_parts (on_front (gain x) ts)
gained-tries x [] = refl
gained-tries x (t ∷ ts) = refl

gained-is : (x : Answer) (acts : List Act) → on_last (gained x) (map act_parts acts) ≡ map act_parts (on_try (gain x) acts)
gained-is x [] = refl
gained-is x (a ∷ acts) = λ i. record { index = a.task.index; tries = gained-tries x a.tries i; spent = a.spent } ∷ map act_parts acts

ended-tries : (o : Outcome) (ts : List Try) → on_first (ended o) (map try_parts ts) ≡ map try_parts (on_front (finish o) ts)
ended-tries o [] = refl
ended-tries o (t ∷ ts) = refl

ended-is : (o : Outcome) (acts : List Act) → on_last (ended o) (map act_parts acts) ≡ map act_parts (on_try (finish o) acts)
ended-is o [] = refl
ended-is o (a ∷ acts) = λ i. record { index = a.task.index; tries = ended-tries o a.tries i; spent = a.spent } ∷ map act_parts acts

spent-is : (c : ℕ) (acts : List Act) → spent_by c (map act_parts acts) ≡ map act_parts (on_act (λ a. record a { spent = Some c }) acts)
spent-is c [] = refl
spent-is c (a ∷ acts) = refl

closed-is : (o : Outcome) (b : Book) → closed o (map act_parts b.acts) ≡ map act_parts (close o b).acts
closed-is (outcome.Spent c) b = spent-is c b.acts
closed-is o b = ended-is o b.acts

entered-is : (b : Book) (f : Effect) → entered f (map act_parts b.acts) ≡ map act_parts (enter f b).acts
entered-is b (effect.Run n) = refl
entered-is b (effect.Act i h t k c x) = refl
entered-is b (effect.Try i s) = tried-is s b.acts
entered-is b (effect.Got k v) = gained-is (Got v) b.acts
entered-is b (effect.Acked k) = gained-is Stored b.acts
entered-is b (effect.End i o) = closed-is o b
entered-is b f = refl

-- ---- the acts of this run

either : (c : Bool) → ◌≡◌ {A = List Act} (if c then [] else []) []
either true = refl
either false = refl

module _ (script : List ℕ → Tree) (me run : ℕ) (plan : List Task) where
  abbrev now : Book → List Act
  now b = if b.run == run then b.acts else []

  enter-here : (b : Book) (f : Effect) → (b.run == run) ≡ true → now (enter f b) ≡ (enter f b).acts
  enter-here b (effect.Run n) h = either (n == run)
  enter-here b (effect.Act i x t k c y) h = cond-true (b.run == run) _ _ h
  enter-here b (effect.Try i s) h = cond-true (b.run == run) _ _ h
  enter-here b (effect.Got k v) h = cond-true (b.run == run) _ _ h
  enter-here b (effect.Acked k) h = cond-true (b.run == run) _ _ h
  enter-here b (effect.End i o) h = cond-true ((close o b).run == run) _ _ (ap (λ r. r == run) (closed-run o b) ∙ h)
  enter-here b f h = cond-true (b.run == run) _ _ h

  enter-away : (b : Book) (f : Effect) → (b.run == run) ≡ false → now (enter f b) ≡ []
  enter-away b (effect.Run n) h = either (n == run)
  enter-away b (effect.Act i x t k c y) h = cond-false (b.run == run) _ _ h
  enter-away b (effect.Try i s) h = cond-false (b.run == run) _ _ h
  enter-away b (effect.Got k v) h = cond-false (b.run == run) _ _ h
  enter-away b (effect.Acked k) h = cond-false (b.run == run) _ _ h
  enter-away b (effect.End i o) h = cond-false ((close o b).run == run) _ _ (ap (λ r. r == run) (closed-run o b) ∙ h)
  enter-away b f h = cond-false (b.run == run) _ _ h

  -- in this run what fits counts
  counts-here : (b : Book) (f : Effect) → (b.run == run) ≡ true → counts script me run plan b f ≡ fits script me plan b f
  counts-here b (effect.Run n) h = refl
  counts-here b (effect.Put o x v) h = refl
  counts-here b (effect.Stretch o x) h = refl
  counts-here b (effect.Begin s d) h = refl
  counts-here b (effect.Decide s d) h = refl
  counts-here b (effect.Learn s c) h = refl
  counts-here b (effect.Mark at) h = refl
  counts-here b effect.Whole h = refl
  counts-here b f h = cond-true (b.run == run) _ _ h

  step-here : (log : List Effect) (f : Effect) (c : Bool) → ((book log).run == run) ≡ true →
      entered_if c f (map act_parts (now (book log))) ≡ map act_parts (now (book (add_if c f log)))
  unfolding book
  step-here log f true h =
      ap (λ acts. entered f (map act_parts acts)) (cond-true ((book log).run == run) _ _ h) ∙ entered-is (book log) f ∙ ap (map act_parts) (sym (enter-here (book log) f h))
  step-here log f false h = refl

  step-away : (log : List Effect) (f : Effect) (c : Bool) → ((book log).run == run) ≡ false → map act_parts (now (book log)) ≡ map act_parts (now (book (add_if c f log)))
  unfolding book
  step-away log f true h = ap (map act_parts) (cond-false ((book log).run == run) _ _ h ∙ sym (enter-away (book log) f h))
  step-away log f false h = refl

  step : (log : List Effect) (f : Effect) (c : Bool) → ((book log).run == run) ≡ c →
      entered_if (counts_now script me run plan (book log) f) f (map act_parts (now (book log))) ≡ map act_parts (now (book (add_if (counts script me run plan (book log) f) f log)))
  step log f true h =
      ap (λ x. entered_if x f (map act_parts (now (book log)))) (cond-true ((book log).run == run) _ _ h)
      ∙ step-here log f (fits script me plan (book log) f) h
      ∙ ap (λ x. map act_parts (now (book (add_if x f log)))) (sym (counts-here (book log) f h))
  step log f false h =
      ap (λ x. entered_if x f (map act_parts (now (book log)))) (cond-false ((book log).run == run) _ _ h)
      ∙ step-away log f (counts script me run plan (book log) f) h

  pub counted-read : (log : List Effect) → read_off (counting script me run plan log) log ≡ map act_parts (now (counted script me run plan log))
  unfolding counting keep book
  counted-read [] = ap (map act_parts) (sym (either (0 == run)))
  counted-read (f ∷ log) =
      ap (entered_if (counts_now script me run plan (counted script me run plan log) f) f) (counted-read log)
      ∙ step (keep script me run plan log) f ((counted script me run plan log).run == run) refl

  pub counting-length : (log : List Effect) → length (counting script me run plan log) ≡ length log
  unfolding counting
  counting-length [] = refl
  counting-length (f ∷ log) = ap (λ n. suc n) (counting-length log)

-- ---- a broker of a plan

module _ (plan : Plan) (whole : CanRun plan) (number : ℕ) (own : List ActSpec) (is : own ≡ acts_of number plan.acts) where
  pub own-acts : AreBrokerActs own
  own-acts = subst AreBrokerActs (sym is) (plan-own_acts plan number whole)

  pub own-read : Scripted (reading plan.acts) own
  own-read = subst (Scripted (reading plan.acts)) (sym is) (own-scripted (reading plan.acts) Broker number plan.acts (own-reading plan whole))

  module _ (flags : List Bool) (log : List Effect) (flagged : (script : List ℕ → Tree) → Scripted script own → reverse flags ≡ counting script number plan.run (tasks own) (reverse log)) where
    pub flags-length : length flags ≡ length log
    flags-length =
        sym (length-reverse flags) ∙ ap length (flagged (reading plan.acts) own-read) ∙ counting-length (reading plan.acts) number plan.run (tasks own) (reverse log) ∙ length-reverse log

    pub begun-read : (logs : NodeId → List Effect) → log ≡ logs (broker number) → read_off (reverse flags) (reverse log) ≡ map act_parts (begun_acts plan logs number)
    begun-read logs at =
        ap (λ fs. read_off fs (reverse log)) (flagged (reading plan.acts) own-read)
        ∙ counted-read (reading plan.acts) number plan.run (tasks own) (reverse log)
        ∙ ap (λ (as' : List ActSpec). map act_parts (acts_in plan (counted (reading plan.acts) number plan.run (tasks as') (reverse log)))) is
        ∙ ap (λ (l : List Effect). map act_parts (acts_in plan (counted (reading plan.acts) number plan.run (tasks (acts_of number plan.acts)) (reverse l)))) at

-- ---- all brokers

module _ (plan : Plan) (logs : NodeId → List Effect) (most : ℕ) where
  last-all : (k : ℕ) → k ≤ most → begun_to plan logs (most - k) ++ begun_last plan logs most k ≡ begun_to plan logs most
  last-all zero le = let e : most - 0 ≡ most = omega arith in append-nil (begun_to plan logs (most - 0)) ∙ ap (begun_to plan logs) e
  last-all (suc k) le =
      let p = most - suc k in
      let e : most - k ≡ suc p = omega (arith, le) in
      ap (λ n. begun_to plan logs p ++ (begun_acts plan logs n ++ begun_last plan logs most k)) e
      ∙ sym (append_assoc (begun_to plan logs p) (begun_acts plan logs (suc p)) (begun_last plan logs most k))
      ∙ ap (λ n. begun_to plan logs n ++ begun_last plan logs most k) (sym e)
      ∙ last-all k (omega (arith, le))

  pub begun-all : (k : ℕ) → k ≡ most → begun_last plan logs most k ≡ begun_to plan logs most
  begun-all k e =
      let z : most - k ≡ 0 = omega (arith, e) in
      ap (λ n. begun_to plan logs n ++ begun_last plan logs most k) (sym z) ∙ last-all k (omega (arith, e))
