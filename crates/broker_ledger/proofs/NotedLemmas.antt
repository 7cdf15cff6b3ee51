-- An effect that counts changes the notes as it changes the book.
use Rattle.broker_ledger.proofs.Names.{ActSpec, StampParts, Effect, Outcome, Answer, Tree, Given, Last, Notes, Task, task_with, tasks, Try, Act, Book, enter, front, tries_of, on_act, on_front, on_try, new_try, finish, open_front, open_of, open_try, last_try, if_open, fits, fits_try, fits_got, fits_acked, fits_end, fits_spent, last_of, over_behind, spent_in, tries_in, notes_of, answers_given, answer_of, answers_of_last, answered_in, act_at, most_of, over_at, try_begun, answer_noted, noted, Shows, kept, answers_noted, Started, ◌≡◌, ℕ, suc, max, ◌+◌, ◌-◌, ◌==◌, Bool, true, false, length, take, List, [], ◌∷◌, ◌++◌, refl, sym, ◌∙◌, ap, subst, Option, Some, None, if◌then◌else◌, arith, false≢true, length-append, length-map, map-append, take-length, slice_get, option_map, gain, act_begun}
use Rattle.effect_form.specs.declared.effects.Effect.TheVariants as effect
use Rattle.effect_form.specs.declared.outcomes.Outcome.TheVariants as outcome
use Rattle.broker_ledger.specs.declared.givens.Given.TheVariants as given
use Rattle.broker_ledger.proofs.ShapeLemmas.{over-is, most_in, open-is-last}
use Rattle.broker_ledger.proofs.MeetLemmas.{last-act, Meets}

one-more : (n : ℕ) → suc n ≡ n + 1
one-more n = omega arith

-- ---- an act begins

pub most-of-last : (acts : List ActSpec) (as' : List Act) → Started (tasks acts) as' → most_of (if length as' == 0 then None else slice_get acts (length as' - 1)) ≡ most_in as'
most-of-last acts [] k = refl
most-of-last acts (a ∷ done) k = let g = last-act acts (a ∷ done) a done refl k in ap most_of g.1 ∙ ap (λ (x : Task). x.tries) g.2

act-notes : (acts : List ActSpec) (b : Book) (t : Task) (run : ℕ) → Started (tasks acts) b.acts →
    act_begun (most_of (act_at acts (notes_of b))) (notes_of b) ≡ notes_of (record b { acts = record { run = run; task = t; tries = []; spent = None } ∷ b.acts })
act-notes acts b t run k =
    ap (λ (x : ℕ). record (notes_of b) { started = x; over_before = over_at (most_of (act_at acts (notes_of b))) (notes_of b); spent = false; tries = 0 }) (sym (one-more (length b.acts)))
    ∙ ap (λ (x : Bool). record (notes_of b) { started = suc (length b.acts); over_before = x; spent = false; tries = 0 })
    (ap (λ (m : ℕ). over_at m (notes_of b)) (most-of-last acts b.acts k) ∙ over-is b)

-- ---- a try begins

abbrev notes_at : Book → List Act → Notes
notes_at b as' = record {
  run = b.run;
  clock = b.clock;
  shown = b.shown;
  started = length as';
  over_before = over_behind as';
  spent = spent_in as';
  tries = tries_in as';
  last = option_map last_of (front (tries_of as'));
}

try-notes : (me i : ℕ) (s : StampParts) (b : Book) (as' : List Act) → fits_try me i s b.clock as' ≡ true →
    try_begun s (notes_at b as') ≡ notes_at (record b { clock = max b.clock s.clock }) (on_act (λ (a : Act). record a { tries = new_try a s ∷ a.tries }) as')
try-notes me i s b [] h = cc
try-notes me i s b (a ∷ done) h =
    ap (λ (x : ℕ). record (notes_at b (a ∷ done)) { clock = max b.clock s.clock; tries = x; last = Some (record { stamp = s; answered = 0; end = None }) }) (sym (one-more (length a.tries)))

try-last : (me i : ℕ) (s : StampParts) (clock : ℕ) (as' : List Act) → fits_try me i s clock as' ≡ true →
    answers_of_last (front (tries_of (on_act (λ (a : Act). record a { tries = new_try a s ∷ a.tries }) as'))) ≡ []
try-last me i s clock [] h = cc
try-last me i s clock (a ∷ done) h = refl

-- ---- the last try changes

front-length : (g : Try → Try) (ts : List Try) → length (on_front g ts) ≡ length ts
front-length g [] = refl
front-length g (t ∷ ts) = refl

front-changed : (g : Try → Try) (ts rest : List Try) (t : Try) → open_front ts ≡ Some t → front (on_front g ts ++ rest) ≡ Some (g t)
front-changed g [] rest t h = cc
front-changed g (u ∷ ts) rest t h = ap (λ (x : Try). Some (g x)) (same t u u.end h)
  where
    same : (t u : Try) (e : Option Outcome) → if_open u e ≡ Some t → u ≡ t
    same t u None h = cc
    same t u (Some o) h = cc

last-changed : (g : Try → Try) (as' : List Act) (t : Try) → open_of as' ≡ Some t → front (tries_of (on_try g as')) ≡ Some (g t)
last-changed g [] t h = cc
last-changed g (a ∷ done) t h = front-changed g a.tries (tries_of done) t h

changed-notes : (g : Try → Try) (b : Book) (as' : List Act) (t : Try) → open_of as' ≡ Some t →
    notes_at b (on_try g as') ≡ record (notes_at b as') { last = Some (last_of (g t)) }
changed-notes g b [] t h = cc
changed-notes g b (a ∷ done) t h =
    ap (λ (x : ℕ). record (notes_at b (on_try g (a ∷ done))) { tries = x }) (front-length g a.tries)
    ∙ ap (λ (o : Option Try). record (notes_at b (a ∷ done)) { last = option_map last_of o }) (last-changed g (a ∷ done) t h)

spent-notes : (i c : ℕ) (b : Book) (as' : List Act) → fits_spent i as' ≡ true →
    record (notes_at b as') { spent = true } ≡ notes_at b (on_act (λ (a : Act). record a { spent = Some c }) as')
spent-notes i c b [] h = cc
spent-notes i c b (a ∷ done) h = refl

spent-last : (c : ℕ) (as' : List Act) → front (tries_of (on_act (λ (a : Act). record a { spent = Some c }) as')) ≡ front (tries_of as')
spent-last c [] = refl
spent-last c (a ∷ done) = refl

open-of-end : (i : ℕ) (o : Option Try) → fits_end i o ≡ true → (t : Try) × (o ≡ Some t)
open-of-end i None h = cc
open-of-end i (Some t) h = (t, refl)

open-of-got : (script : List ℕ → Tree) (k : ℕ) (o : Option Try) → fits_got script k o ≡ true → (t : Try) × (o ≡ Some t)
open-of-got script k None h = cc
open-of-got script k (Some t) h = (t, refl)

open-of-acked : (script : List ℕ → Tree) (k : ℕ) (o : Option Try) → fits_acked script k o ≡ true → (t : Try) × (o ≡ Some t)
open-of-acked script k None h = cc
open-of-acked script k (Some t) h = (t, refl)

-- all answers are kept, once there is one more
kept-all : (n : ℕ) (xs : List Given) (g : Given) → length xs ≡ n → take (n + 1) (xs ++ g ∷ []) ≡ xs ++ g ∷ []
kept-all n xs g e =
    let l : length (xs ++ g ∷ []) ≡ n + 1 = length-append xs (g ∷ []) ∙ ap (λ (x : ℕ). x + 1) e in
    subst (λ (m : ℕ). take m (xs ++ g ∷ []) ≡ xs ++ g ∷ []) l (take-length (xs ++ g ∷ []))

module _ (script : List ℕ → Tree) (me run : ℕ) (acts : List ActSpec) where
  abbrev ShowsAfter : List Given → Book → Effect → Type 0
  ShowsAfter raw b f = Shows run (noted acts f (notes_of b)) (kept (noted acts f (notes_of b)) (answers_noted f (notes_of b) raw)) (enter f b)

  answer-shows : (raw : List Given) (b : Book) (t : Try) (g : Given) → Meets script run acts (notes_of b) (kept (notes_of b) raw) b → open_try b ≡ Some t →
      Shows run (answer_noted (notes_of b)) (kept (answer_noted (notes_of b)) (kept (notes_of b) raw ++ g ∷ [])) (record b { acts = on_try (gain (answer_of g)) b.acts })
  answer-shows raw b t g k o =
      let last : last_try b ≡ Some t = open-is-last b t o in
      let noted-last : (answer_noted (notes_of b)).last ≡ Some (record { stamp = t.stamp; answered = length t.answers + 1; end = t.end }) =
      ap (λ (x : Option Try). option_map (λ (l : Last). record l { answered = l.answered + 1 }) (option_map last_of x)) last in
      let are : answers_given (kept (notes_of b) raw) ≡ t.answers = k.answers_are ∙ ap answers_of_last last in
      let long : length (kept (notes_of b) raw) ≡ length t.answers = sym (length-map (kept (notes_of b) raw) answer_of) ∙ ap length are in
      record {
        run_is = refl;
        clock_is = refl;
        notes_are = λ r.
            ap (λ (x : Option Last). record (notes_of b) { last = x }) noted-last
            ∙ (ap (λ (x : ℕ). record (notes_of b) { last = Some (record { stamp = t.stamp; answered = x; end = t.end }) }) (sym (length-append t.answers (answer_of g ∷ [])))
            ∙ sym (changed-notes (gain (answer_of g)) b b.acts t o));
        answers_are = λ r.
            ap (λ (x : Option Last). answers_given (take (answered_in x) (kept (notes_of b) raw ++ g ∷ []))) noted-last
            ∙ (ap answers_given (kept-all (length t.answers) (kept (notes_of b) raw) g long)
            ∙ (map-append answer_of (kept (notes_of b) raw) (g ∷ [])
            ∙ (ap (λ (xs : List Answer). xs ++ answer_of g ∷ []) are ∙ sym (ap answers_of_last (last-changed (gain (answer_of g)) b.acts t o)))));
      }

  finish-shows : (raw : List Given) (b : Book) (t : Try) (o : Outcome) (shown : ℕ) → Meets script run acts (notes_of b) (kept (notes_of b) raw) b → open_try b ≡ Some t →
      Shows run (record (notes_of b) { shown = shown; last = option_map (λ (l : Last). record l { end = Some o }) (notes_of b).last })
      (kept (record (notes_of b) { shown = shown; last = option_map (λ (l : Last). record l { end = Some o }) (notes_of b).last }) raw)
      (record b { shown = shown; acts = on_try (finish o) b.acts })
  finish-shows raw b t o shown k e =
      let last : last_try b ≡ Some t = open-is-last b t e in
      let noted-last : option_map (λ (l : Last). record l { end = Some o }) (notes_of b).last ≡ Some (record { stamp = t.stamp; answered = length t.answers; end = Some o }) =
      ap (λ (x : Option Try). option_map (λ (l : Last). record l { end = Some o }) (option_map last_of x)) last in
      record {
        run_is = refl;
        clock_is = refl;
        notes_are = λ r. ap (λ (x : Option Last). record (notes_of b) { shown = shown; last = x }) noted-last ∙ sym (changed-notes (finish o) (record b { shown = shown }) b.acts t e);
        answers_are = λ r.
            ap (λ (x : Option Last). answers_given (take (answered_in x) raw)) noted-last
            ∙ (sym (ap (λ (x : Option Try). answers_given (take (answered_in (option_map last_of x)) raw)) last)
            ∙ (k.answers_are ∙ (ap answers_of_last last ∙ sym (ap answers_of_last (last-changed (finish o) b.acts t e)))));
      }

  end-shows : (raw : List Given) (b : Book) (i : ℕ) (o : Outcome) → Meets script run acts (notes_of b) (kept (notes_of b) raw) b → fits script me (tasks acts) b (effect.End i o) ≡ true → ShowsAfter raw b (effect.End i o)
  end-shows raw b i (outcome.LaterRead o e) k h = let t = open-of-end i (open_try b) h in finish-shows raw b t.0 (outcome.LaterRead o e) (max b.shown e.stamp.clock) k t.1
  end-shows raw b i (outcome.LaterVersion o x) k h = let t = open-of-end i (open_try b) h in finish-shows raw b t.0 (outcome.LaterVersion o x) (max b.shown x.stamp.clock) k t.1
  end-shows raw b i (outcome.Expired d m) k h = let t = open-of-end i (open_try b) h in finish-shows raw b t.0 (outcome.Expired d m) b.shown k t.1
  end-shows raw b i (outcome.Spent c) k h = record {
    run_is = refl;
    clock_is = refl;
    notes_are = λ r. spent-notes i c b b.acts h;
    answers_are = λ r. k.answers_are ∙ ap answers_of_last (sym (spent-last c b.acts));
  }
  end-shows raw b i o k h = let t = open-of-end i (open_try b) h in finish-shows raw b t.0 o b.shown k t.1

  shows-after : (raw : List Given) (b : Book) (f : Effect) → Meets script run acts (notes_of b) (kept (notes_of b) raw) b → fits script me (tasks acts) b f ≡ true → ShowsAfter raw b f
  shows-after raw b (effect.Run n) k h = record { run_is = refl; clock_is = refl; notes_are = λ r. refl; answers_are = λ r. refl }
  shows-after raw b (effect.Act i x t k' c y) k h = record {
    run_is = refl;
    clock_is = refl;
    notes_are = λ r. act-notes acts b (task_with i x t k' c y) b.run (k.sound.started k.here);
    answers_are = λ r. k.answers_are;
  }
  shows-after raw b (effect.Try i s) k h = record {
    run_is = refl;
    clock_is = refl;
    notes_are = λ r. try-notes me i s b b.acts h;
    answers_are = λ r. sym (try-last me i s b.clock b.acts h);
  }
  shows-after raw b (effect.Got n v) k h = let t = open-of-got script n (open_try b) h in answer-shows raw b t.0 (given.Got v) k t.1
  shows-after raw b (effect.Acked n) k h = let t = open-of-acked script n (open_try b) h in answer-shows raw b t.0 given.Stored k t.1
  shows-after raw b (effect.End i o) k h = end-shows raw b i o k h
  shows-after raw b f k h = absurd (false≢true h)

  pub noted-shows : (n : Notes) (raw : List Given) (b : Book) (f : Effect) → Meets script run acts n (kept n raw) b → fits script me (tasks acts) b f ≡ true →
      Shows run (noted acts f n) (kept (noted acts f n) (answers_noted f n raw)) (enter f b)
  noted-shows n raw b f k h =
      let a : answers_given (kept (notes_of b) raw) ≡ answers_of_last (last_try b) = subst (λ (x : Notes). answers_given (kept x raw) ≡ answers_of_last (last_try b)) k.notes_are k.answers_are in
      let k' : Meets script run acts (notes_of b) (kept (notes_of b) raw) b = record { scripted = k.scripted; sound = k.sound; here = k.here; notes_are = refl; answers_are = a } in
      subst (λ (x : Notes). Shows run (noted acts f x) (kept (noted acts f x) (answers_noted f x raw)) (enter f b)) (sym k.notes_are) (shows-after raw b f k' h)
