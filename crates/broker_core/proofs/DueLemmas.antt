-- What is owed by the notes is what is owed by the book.
use Rattle.broker_core.proofs.Names.{ActSpec, Effect, ToRead, ToWrite, Tree, Given, Heard, Notes, Task, task_of, tasks, Try, Act, Book, front, tries_of, is_none, another, next_clock, Stage, Idle, Refused, Opening, Asking, Finishing, Stopping, Closing, stage, is_closed, try_or_spent, after_tries, after_act, due, by_stage, owed, last_of, over_behind, spent_in, tries_in, notes_of, calls_on, act_at, most_of, index_of, phase_at, start_at, try_or_spent_at, closed_in, after_tries_at, due_at, by_phase, owed_at, Started, ◌≡◌, ℕ, max, ◌-◌, ◌==◌, nat_lt, Bool, true, false, ◌&&◌, length, List, [], ◌∷◌, ◌++◌, refl, sym, ◌∙◌, ap, Option, Some, None, if◌then◌else◌, slice_get, option_map, start, slice_get-map}
use Rattle.broker_ledger.specs.Effect.TheVariants as effect
use Rattle.broker_ledger.specs.Outcome.TheVariants as outcome
use Rattle.broker_ledger.proofs.ShapeLemmas.{past-zero, another-is}
use Rattle.broker_ledger.proofs.MeetLemmas.{last-act, act-is, Meets}
use Rattle.broker_core.proofs.PhaseLemmas.{shown, StageOf, phase-is, stage-of-is}

-- ---- the plan's acts

start-of : (o : Option ActSpec) → start (option_map task_of o) ≡ start_at o
start-of None = refl
start-of (Some a) = refl

start-is : (acts : List ActSpec) (i : ℕ) → start (slice_get (tasks acts) i) ≡ start_at (slice_get acts i)
start-is acts i = ap start (slice_get-map task_of acts i) ∙ start-of (slice_get acts i)

module _ (me : ℕ) (acts : List ActSpec) where
  -- a further try, or that the act is spent, by the task
  try-of : (b : Book) (o : Option ActSpec) (s : ActSpec) (a : Act) → o ≡ Some s → task_of s ≡ a.task → try_or_spent_at me o (notes_of b) ≡ try_or_spent me b a
  try-of b o s a e t =
      ap (λ (x : Option ActSpec). try_or_spent_at me x (notes_of b)) e
      ∙ ap (λ (x : Task). by-task x (next_clock b.clock (max b.shown (x.clock - 1)))) t
    where
      by-task : Task → Option ℕ → Effect
      by-task x (Some c) = effect.Try x.index (record { clock = c; broker = me; home = x.home })
      by-task x None = effect.End x.index (outcome.Spent (max b.clock (max b.shown (x.clock - 1))))

  -- the notes on a book, with its acts apart
  abbrev notes_at : Book → List Act → Notes
  notes_at b as' = record {
    run = b.run;
    clock = b.clock;
    shown = b.shown;
    started = length as';
    over_before = over_behind as';
    spent = spent_in as';
    tries = tries_in as';
    last = option_map last_of (front (tries_of as'));
  }

  tries-due : (h : Heard) (b : Book) (a : Act) (ts rest : List Try) (k : ℕ) (e : Effect) (most : ℕ) → e ≡ try_or_spent me b a → most ≡ a.task.tries →
      (if length ts == 0 then Some e else (if closed_in h (option_map last_of (front (ts ++ rest)))
      then (if (if length ts == 0 then true else calls_on (option_map last_of (front (ts ++ rest))) && nat_lt (length ts) most) then Some e else start_at (slice_get acts k)) else None))
      ≡ after_tries me (tasks acts) h b a ts k
  tries-due h b a [] rest k e most q m = ap (λ (x : Effect). Some x) q
  tries-due h b a (t ∷ ts) rest k e most q m =
      past-zero (length ts) (Some e) _
      ∙ (ap (λ (c : Bool). if is_closed h t then (if c then Some e else start_at (slice_get acts k)) else None) (another-is most (t ∷ ts) rest ∙ ap (λ (x : ℕ). another x (t ∷ ts)) m)
      ∙ (ap (λ (x : Effect). if is_closed h t then (if another a.task.tries (t ∷ ts) then Some x else start_at (slice_get acts k)) else None) q
      ∙ ap (λ (x : Option Effect). if is_closed h t then (if another a.task.tries (t ∷ ts) then Some (try_or_spent me b a) else x) else None) (sym (start-is acts k))))

  spent-due : (h : Heard) (b : Book) (a : Act) (done : List Act) (e : Option ℕ) → Started (tasks acts) (a ∷ done) →
      (if (if is_none e then false else true) then start_at (slice_get acts (length (a ∷ done))) else after_tries_at me acts h (notes_at b (a ∷ done)))
      ≡ after_act me (tasks acts) h b a e (length (a ∷ done))
  spent-due h b a done (Some c) k = sym (start-is acts (length (a ∷ done)))
  spent-due h b a done None k =
      let g = last-act acts (a ∷ done) a done refl k in
      tries-due h b a a.tries (tries_of done) (length (a ∷ done)) _ _
      (try-of b (act_at acts (notes_at b (a ∷ done))) g.0 a g.1 g.2) (ap most_of g.1 ∙ ap (λ (x : Task). x.tries) g.2)

  due-list : (h : Heard) (b : Book) (as' : List Act) → Started (tasks acts) as' → due_at me acts h (notes_at b as') ≡ due me (tasks acts) h b as'
  due-list h b [] k = sym (start-is acts 0)
  due-list h b (a ∷ done) k = past-zero (length done) (start_at (slice_get acts 0)) _ ∙ spent-due h b a done a.spent k

  module _ (script : List ℕ → Tree) (run : ℕ) where
    stage-due : (b : Book) (answers : List Given) (h : Heard) (s : Stage) → Meets script run acts (notes_of b) answers b → StageOf script run acts b s →
        by_phase me acts h (notes_of b) (shown s) ≡ by_stage me (tasks acts) h b s
    unfolding StageOf
    stage-due b answers h Idle k e = due-list h b b.acts (k.sound.started k.here)
    stage-due b answers h (Refused t) k e = due-list h b b.acts (k.sound.started k.here)
    stage-due b answers h (Opening t) k e = due-list h b b.acts (k.sound.started k.here)
    stage-due b answers h (Asking t (ToRead o)) k e = due-list h b b.acts (k.sound.started k.here)
    stage-due b answers h (Asking t (ToWrite o v)) k e = due-list h b b.acts (k.sound.started k.here)
    stage-due b answers h (Finishing t) k e = due-list h b b.acts (k.sound.started k.here)
    stage-due b answers h (Stopping t o) k e =
        let a = act-is acts script run b t k.sound k.here e in
        ap (λ (i : ℕ). Some (effect.End i o)) (ap index_of a.1 ∙ ap (λ (x : Task). x.index) a.2)
    stage-due b answers h (Closing t) k e = due-list h b b.acts (k.sound.started k.here)

    pub owed-is : (n : Notes) (answers : List Given) (b : Book) (h : Heard) → Meets script run acts n answers b →
        owed_at me acts run n h (phase_at acts run n answers h) ≡ owed script me run (tasks acts) b h
    owed-is n answers b h k =
        let k' : Meets script run acts (notes_of b) answers b = record { scripted = k.scripted; sound = k.sound; here = k.here; notes_are = refl; answers_are = k.answers_are } in
        ap (owed_at me acts run n h) (phase-is script run acts n answers b h k)
        ∙ (ap (λ (x : Notes). owed_at me acts run x h (shown (stage script run b h))) k.notes_are
        ∙ ap (λ (x : Option Effect). if nat_lt b.run run then Some (effect.Run run) else x) (stage-due b answers h (stage script run b h) k' (stage-of-is script run acts b h)))
