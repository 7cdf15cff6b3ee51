-- The book of the part of a log that counts is the plan's.
use Rattle.broker_ledger.proofs.Names.{StampParts, Every, Effect, Outcome, Tree, Task, task_with, same_task, is_task, Try, Act, Book, enter, book, on_act, on_front, on_try, finish, new_try, fits, counts, add_if, keep, rests, Started, OfAct, Sound, ◌≡◌, ℕ, ◌==◌, Bool, true, false, ◌&&◌, length, List, [], ◌∷◌, refl, sym, ◌∙◌, ap, Option, Some, None, if◌then◌else◌, eqb-true, eq-eqb, slice_get, same_text, close}
use Rattle.effect_form.specs.declared.effects.Effect.TheVariants as effect
use Rattle.effect_form.specs.declared.outcomes.Outcome.TheVariants as outcome

-- ---- tests

pub and-left : (a b : Bool) → (a && b) ≡ true → a ≡ true
and-left true b h = refl
and-left false b h = cc

pub and-right : (a b : Bool) → (a && b) ≡ true → b ≡ true
and-right true b h = h
and-right false b h = cc

pub and-both : {a b : Bool} → a ≡ true → b ≡ true → (a && b) ≡ true
and-both h k = rw h k

task-of : (i h t k c : ℕ) (x : List ℕ) (i' h' t' k' c' : ℕ) (x' : List ℕ) → i ≡ i' → h ≡ h' → t ≡ t' → k ≡ k' → c ≡ c' → x ≡ x' →
    ◌≡◌ {A = Task} (record { index = i; home = h; timeout = t; tries = k; clock = c; script = x }) (record { index = i'; home = h'; timeout = t'; tries = k'; clock = c'; script = x' })
task-of i h t k c x i' h' t' k' c' x' a b d e f g = cc

pub same_task-is : (a b : Task) → same_task a b ≡ true → a ≡ b
same_task-is a b h =
    let h2 = and-right (a.index == b.index) _ h in
    let h3 = and-right (a.home == b.home) _ h2 in
    let h4 = and-right (a.timeout == b.timeout) _ h3 in
    let h5 = and-right (a.tries == b.tries) _ h4 in
    task-of a.index a.home a.timeout a.tries a.clock a.script b.index b.home b.timeout b.tries b.clock b.script
    (eqb-true _ _ (and-left (a.index == b.index) _ h)) (eqb-true _ _ (and-left (a.home == b.home) _ h2))
    (eqb-true _ _ (and-left (a.timeout == b.timeout) _ h3)) (eqb-true _ _ (and-left (a.tries == b.tries) _ h4))
    (eqb-true _ _ (and-left (a.clock == b.clock) _ h5)) (same_text a.script b.script (sym (and-right (a.clock == b.clock) _ h5)))

pub is_task-is : (o : Option Task) (a : Task) → is_task o a ≡ true → o ≡ Some a
is_task-is None a h = cc
is_task-is (Some x) a h = ap (λ (y : Task). Some y) (same_task-is x a h)

-- ---- an effect that counts

started-on : (plan : List Task) (g : Act → Act) → ((a : Act) → (g a).task ≡ a.task) → (as' : List Act) → Started plan as' → Started plan (on_act g as')
started-on plan g s [] h = h
started-on plan g s (a ∷ done) h = (h.0, h.1 ∙ ap (λ (x : Task). Some x) (sym (s a)))

of-on : (g : Act → Act) → ((a : Act) → OfAct a → OfAct (g a)) → (as' : List Act) → Every OfAct as' → Every OfAct (on_act g as')
of-on g s [] h = h
of-on g s (a ∷ done) h = (s a h.0, h.1)

of-front : (g : Try → Try) → ((t : Try) → ((g t).task ≡ t.task) × ((g t).run ≡ t.run)) → (task : Task) (run : ℕ) (ts : List Try) → Every (λ (t : Try). (t.task ≡ task) × (t.run ≡ run)) ts →
    Every (λ (t : Try). (t.task ≡ task) × (t.run ≡ run)) (on_front g ts)
of-front g s task run [] h = h
of-front g s task run (t ∷ ts) h = (((s t).0 ∙ h.0.0, (s t).1 ∙ h.0.1), h.1)

-- the acts are the plan's, and the tries are the acts'
abbrev pub Both : List Task → List Act → Type 0
Both plan as' = Started plan as' × Every OfAct as'

module _ (plan : List Task) where
  on-tries : (g : Try → Try) → ((t : Try) → ((g t).task ≡ t.task) × ((g t).run ≡ t.run)) → (as' : List Act) → Both plan as' → Both plan (on_try g as')
  on-tries g s as' h = (started-on plan _ (λ a. refl) as' h.0, of-on _ (λ a k. of-front g s a.task a.run a.tries k) as' h.1)

  spent-on : (c : ℕ) (as' : List Act) → Both plan as' → Both plan (on_act (λ (a : Act). record a { spent = Some c }) as')
  spent-on c as' h = (started-on plan _ (λ a. refl) as' h.0, of-on _ (λ a k. k) as' h.1)

  tried-on : (s : StampParts) (as' : List Act) → Both plan as' → Both plan (on_act (λ (a : Act). record a { tries = new_try a s ∷ a.tries }) as')
  tried-on s as' h = (started-on plan _ (λ a. refl) as' h.0, of-on _ (λ a k. ((refl, refl), k)) as' h.1)

  closed-both : (o : Outcome) (b : Book) → Both plan b.acts → Both plan (close o b).acts
  closed-both (outcome.Spent c) b h = spent-on c b.acts h
  closed-both o b h = on-tries (finish o) (λ t. (refl, refl)) b.acts h

pub closed-run : (o : Outcome) (b : Book) → (close o b).run ≡ b.run
closed-run outcome.Committed b = refl
closed-run o b = refl

pub here : (e f : Bool) → e ≡ true → (if e then f else true) ≡ true → f ≡ true
here true f k h = h
here false f k h = cc

module _ (script : List ℕ → Tree) (me run : ℕ) (plan : List Task) where
  abbrev Fine : Book → Type 0
  Fine b = b.run ≡ run → Both plan b.acts

  fine-enter : (b : Book) (f : Effect) → Fine b → counts script me run plan b f ≡ true → Fine (enter f b)
  fine-enter b (effect.Run n) h c r = (tt, tt)
  fine-enter b (effect.Act i x t k c' y) h c r =
      let fit = here (b.run == run) (fits script me plan b (effect.Act i x t k c' y)) (eq-eqb b.run run r) c in
      let is = is_task-is (slice_get plan (length b.acts)) (task_with i x t k c' y) (and-left (is_task (slice_get plan (length b.acts)) (task_with i x t k c' y)) (rests b.acts) fit) in
      (((h r).0, is), (tt, (h r).1))
  fine-enter b (effect.Try i s) h c r = tried-on plan s b.acts (h r)
  fine-enter b (effect.Got k v) h c r = on-tries plan _ (λ t. (refl, refl)) b.acts (h r)
  fine-enter b (effect.Acked k) h c r = on-tries plan _ (λ t. (refl, refl)) b.acts (h r)
  fine-enter b (effect.End i o) h c r = closed-both plan o b (h (sym (closed-run o b) ∙ r))
  fine-enter b f h c r = h r

  fine-if : (c : Bool) (f : Effect) (kept : List Effect) → Fine (book kept) → (c ≡ true → Fine (book (f ∷ kept))) → Fine (book (add_if c f kept))
  fine-if true f kept h k = k refl
  fine-if false f kept h k = h

  fine-kept : (log : List Effect) → Fine (book (keep script me run plan log))
  unfolding keep book
  fine-kept [] r = (tt, tt)
  fine-kept (f ∷ log) r =
      let b : Book = book (keep script me run plan log) in
      fine-if (counts script me run plan b f) f (keep script me run plan log) (fine-kept log) (λ c. fine-enter b f (fine-kept log) c) r

  pub sound-kept : (log : List Effect) → Sound run plan (book (keep script me run plan log))
  sound-kept log = record { started = λ r. (fine-kept log r).0; of_acts = λ r. (fine-kept log r).1 }
