-- Which effects fit, by the notes and by the book.
use Rattle.broker_ledger.proofs.Names.{ActSpec, StampParts, Effect, Outcome, Stop, Tree, Given, Last, Notes, is_task, Task, task_of, task_with, tasks, Try, Act, Book, front, tries_of, open_try, is_none, reads_now, writes_now, fits_try, fits_spent, fits_end, fits_outcome, fits_got, fits_acked, fits, last_of, over_behind, spent_in, tries_in, notes_of, open_last, act_at, stop_at, calls_on, rests_at, fits_try_at, fits_step_at, fits_at, Started, ◌≡◌, ℕ, ◌+◌, ◌==◌, nat_lt, Bool, true, false, not, ◌&&◌, length, List, [], ◌∷◌, ◌++◌, refl, sym, ◌∙◌, ap, Option, Some, None, if◌then◌else◌, slice_get-map, slice_get, option_map, fits_spent_at, fits_end_at}
use Rattle.effect_form.specs.declared.effects.Effect.TheVariants as effect
use Rattle.effect_form.specs.declared.outcomes.Outcome.TheVariants as outcome
use Rattle.broker_ledger.proofs.ShapeLemmas.{open-is, rests-is, may_follow-is}
use Rattle.broker_ledger.proofs.MeetLemmas.{last-act, act-is, stop-is, Meets}

not-some : (e : Option ℕ) → not (if is_none e then false else true) ≡ is_none e
not-some None = refl
not-some (Some c) = refl

module _ (me : ℕ) (acts : List ActSpec) where
  -- the notes on a book, with its acts apart
  abbrev notes_at : Book → List Act → Notes
  notes_at b as' = record {
    run = b.run;
    clock = b.clock;
    shown = b.shown;
    started = length as';
    over_before = over_behind as';
    spent = spent_in as';
    tries = tries_in as';
    last = option_map last_of (front (tries_of as'));
  }

  try-fits : (i : ℕ) (s : StampParts) (b : Book) (as' : List Act) → Started (tasks acts) as' → fits_try_at me (act_at acts (notes_at b as')) i s (notes_at b as') ≡ fits_try me i s b.clock as'
  try-fits i s b [] k = refl
  try-fits i s b (a ∷ done) k =
      let g = last-act acts (a ∷ done) a done refl k in
      let n : Notes = notes_at b (a ∷ done) in
      ap (λ (o : Option ActSpec). fits_try_at me o i s n) g.1
      ∙ (ap (λ (x : Task). (i == x.index) && ((s.broker == me) && ((s.home == x.home) && (nat_lt b.clock s.clock && (not n.spent && (if length a.tries == 0 then true else calls_on (option_map last_of (front (a.tries ++ tries_of done))))))))) g.2
      ∙ (ap (λ (x : Bool). (i == a.task.index) && ((s.broker == me) && ((s.home == a.task.home) && (nat_lt b.clock s.clock && (x && (if length a.tries == 0 then true else calls_on (option_map last_of (front (a.tries ++ tries_of done))))))))) (not-some a.spent)
      ∙ ap (λ (x : Bool). (i == a.task.index) && ((s.broker == me) && ((s.home == a.task.home) && (nat_lt b.clock s.clock && (is_none a.spent && x))))) (may_follow-is a.tries (tries_of done))))

  spent-fits : (i : ℕ) (b : Book) (as' : List Act) → Started (tasks acts) as' → fits_spent_at (act_at acts (notes_at b as')) i (notes_at b as') ≡ fits_spent i as'
  spent-fits i b [] k = refl
  spent-fits i b (a ∷ done) k =
      let g = last-act acts (a ∷ done) a done refl k in
      let n : Notes = notes_at b (a ∷ done) in
      ap (λ (o : Option ActSpec). fits_spent_at o i n) g.1
      ∙ (ap (λ (x : Task). (i == x.index) && (not n.spent && (if length a.tries == 0 then true else calls_on (option_map last_of (front (a.tries ++ tries_of done)))))) g.2
      ∙ (ap (λ (x : Bool). (i == a.task.index) && (x && (if length a.tries == 0 then true else calls_on (option_map last_of (front (a.tries ++ tries_of done)))))) (not-some a.spent)
      ∙ ap (λ (x : Bool). (i == a.task.index) && (is_none a.spent && x)) (may_follow-is a.tries (tries_of done))))

  module _ (script : List ℕ → Tree) (run : ℕ) where
    no-end : (o : Option ActSpec) (i : ℕ) → fits_end_at o i None ≡ false
    no-end None i = refl
    no-end (Some a) i = refl

    end-open : (b : Book) (answers : List Given) (i : ℕ) (o : Option Try) → Meets script run acts (notes_of b) answers b → open_try b ≡ o →
        fits_end_at (act_at acts (notes_of b)) i (option_map last_of o) ≡ fits_end i o
    end-open b answers i None k e = no-end (act_at acts (notes_of b)) i
    end-open b answers i (Some t) k e =
        let a = act-is acts script run b t k.sound k.here e in
        ap (λ (x : Option ActSpec). fits_end_at x i (Some (last_of t))) a.1 ∙ ap (λ (x : Task). i == x.index) a.2

    end-fits : (b : Book) (answers : List Given) (i : ℕ) → Meets script run acts (notes_of b) answers b → fits_end_at (act_at acts (notes_of b)) i (open_last (notes_of b)) ≡ fits_end i (open_try b)
    end-fits b answers i k = ap (fits_end_at (act_at acts (notes_of b)) i) (open-is b) ∙ end-open b answers i (open_try b) k refl

    got-open : (b : Book) (answers : List Given) (k : ℕ) (o : Option Try) → Meets script run acts (notes_of b) answers b → open_try b ≡ o →
        (fits_step_at k (option_map last_of o) && reads_now (stop_at acts (notes_of b) answers)) ≡ fits_got script k o
    got-open b answers k None m e = refl
    got-open b answers k (Some t) m e =
        ap (λ (x : Stop). (k == length t.answers + 1) && reads_now x) (stop-is acts script run b t answers m.scripted m.sound m.here e m.answers_are)

    acked-open : (b : Book) (answers : List Given) (k : ℕ) (o : Option Try) → Meets script run acts (notes_of b) answers b → open_try b ≡ o →
        (fits_step_at k (option_map last_of o) && writes_now (stop_at acts (notes_of b) answers)) ≡ fits_acked script k o
    acked-open b answers k None m e = refl
    acked-open b answers k (Some t) m e =
        ap (λ (x : Stop). (k == length t.answers + 1) && writes_now x) (stop-is acts script run b t answers m.scripted m.sound m.here e m.answers_are)

    outcome-fits : (b : Book) (answers : List Given) (i : ℕ) (o : Outcome) → Meets script run acts (notes_of b) answers b → fits_at me acts (notes_of b) answers (effect.End i o) ≡ fits_outcome i o b
    outcome-fits b answers i (outcome.Spent c) k = spent-fits i b b.acts (k.sound.started k.here)
    outcome-fits b answers i o k = end-fits b answers i k

    fits-of : (b : Book) (answers : List Given) (f : Effect) → Meets script run acts (notes_of b) answers b → fits_at me acts (notes_of b) answers f ≡ fits script me (tasks acts) b f
    fits-of b answers (effect.Run n) k = refl
    fits-of b answers (effect.Act i h t k c x) m =
        ap (λ (o : Option Task). is_task o (task_with i h t k c x) && rests_at (notes_of b)) (sym (slice_get-map task_of acts (length b.acts)))
        ∙ ap (λ (r : Bool). is_task (slice_get (tasks acts) (length b.acts)) (task_with i h t k c x) && r) (rests-is b)
    fits-of b answers (effect.Try i s) k = try-fits i s b b.acts (k.sound.started k.here)
    fits-of b answers (effect.Got k v) m =
        ap (λ (o : Option Last). fits_step_at k o && reads_now (stop_at acts (notes_of b) answers)) (open-is b) ∙ got-open b answers k (open_try b) m refl
    fits-of b answers (effect.Acked k) m =
        ap (λ (o : Option Last). fits_step_at k o && writes_now (stop_at acts (notes_of b) answers)) (open-is b) ∙ acked-open b answers k (open_try b) m refl
    fits-of b answers (effect.End i o) k = outcome-fits b answers i o k
    fits-of b answers f k = refl

    pub fits-is : (n : Notes) (answers : List Given) (b : Book) (f : Effect) → Meets script run acts n answers b → fits_at me acts n answers f ≡ fits script me (tasks acts) b f
    fits-is n answers b f k =
        let k' : Meets script run acts (notes_of b) answers b = record { scripted = k.scripted; sound = k.sound; here = k.here; notes_are = refl; answers_are = k.answers_are } in
        ap (λ (x : Notes). fits_at me acts x answers f) k.notes_are ∙ fits-of b answers f k'
