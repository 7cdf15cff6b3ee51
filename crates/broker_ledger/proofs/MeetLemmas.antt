-- The last act and the open try of a sound book are those that the notes on it show.
use Rattle.broker_ledger.proofs.Names.{ActSpec, Every, Tree, stop, Given, Task, task_of, tasks, Scripted, Try, Act, Book, front, open_front, open_of, open_try, last_try, stop_of, notes_of, answers_given, answers_of_last, act_at, tree_of, stop_at, Started, OfAct, Sound, ◌≡◌, ℕ, zero, suc, ◌-◌, ◌==◌, length, List, [], ◌∷◌, refl, sym, ◌∙◌, ap, subst, Some, None, if◌then◌else◌, arith, slice_get, Notes, Shows}
use Rattle.broker_ledger.proofs.ShapeLemmas.{past-zero, get-task, every-get, open-is-last, open-last-front}
use Rattle.std.proofs.Common.{append-nil}

-- the act in the place that the notes say
act-in : (acts : List ActSpec) (n : ℕ) → (if suc n == 0 then None else slice_get acts (suc n - 1)) ≡ slice_get acts n
act-in acts n = past-zero n None (slice_get acts (suc n - 1)) ∙ ap (slice_get acts) (omega arith)

module _ (acts : List ActSpec) where
  placed : (n : ℕ) (s : ActSpec) → (if n == 0 then None else slice_get acts (n - 1)) ≡ Some s → slice_get acts (n - 1) ≡ Some s
  placed zero s h = cc
  placed (suc n) s h = sym (past-zero n None (slice_get acts (suc n - 1))) ∙ h

  -- the last act is the plan's
  pub last-act : (as' : List Act) (a : Act) (done : List Act) → as' ≡ a ∷ done → Started (tasks acts) as' →
      (s : ActSpec) × ((if length as' == 0 then None else slice_get acts (length as' - 1)) ≡ Some s) × (task_of s ≡ a.task)
  last-act [] a done e h = cc
  last-act (x ∷ xs) a done e h =
      let g = get-task acts (length xs) x.task h.1 in
      let q : x ≡ a = cc in
      (g.0, act-in acts (length xs) ∙ g.1, g.2 ∙ ap (λ (y : Act). y.task) q)

  -- and the open try is of it
  open-task : (ts : List Try) (task : Task) (run : ℕ) (t : Try) → Every (λ (x : Try). (x.task ≡ task) × (x.run ≡ run)) ts → open_front ts ≡ Some t → front ts ≡ Some t → t.task ≡ task
  open-task [] task run t h o f = cc
  open-task (x ∷ ts) task run t h o f = let q : x ≡ t = cc in subst (λ (y : Try). y.task ≡ task) q h.0.0

  front-open : (ts : List Try) (t : Try) → open_front ts ≡ Some t → front ts ≡ Some t
  front-open ts t h = sym (ap front (append-nil ts)) ∙ open-last-front ts [] t h

  open-act : (as' : List Act) (t : Try) → Started (tasks acts) as' → Every OfAct as' → open_of as' ≡ Some t →
      (s : ActSpec) × ((if length as' == 0 then None else slice_get acts (length as' - 1)) ≡ Some s) × (task_of s ≡ t.task)
  open-act [] t h k o = cc
  open-act (a ∷ done) t h k o =
      let g = last-act (a ∷ done) a done refl h in
      (g.0, g.1, g.2 ∙ sym (open-task a.tries a.task a.run t k.0 o (front-open a.tries t o)))

  module _ (script : List ℕ → Tree) (run : ℕ) where
    -- the act of an open try
    pub act-is : (b : Book) (t : Try) → Sound run (tasks acts) b → b.run ≡ run → open_try b ≡ Some t → (s : ActSpec) × (act_at acts (notes_of b) ≡ Some s) × (task_of s ≡ t.task)
    act-is b t h r o = open-act b.acts t (h.started r) (h.of_acts r) o

    -- where its script stops
    pub stop-is : (b : Book) (t : Try) (answers : List Given) → Scripted script acts → Sound run (tasks acts) b → b.run ≡ run → open_try b ≡ Some t →
        answers_given answers ≡ answers_of_last (last_try b) → stop_at acts (notes_of b) answers ≡ stop_of script t
    stop-is b t answers m h r o e =
        let g = act-is b t h r o in
        let place : slice_get acts (length b.acts - 1) ≡ Some g.0 = placed (length b.acts) g.0 g.1 in
        let tree : tree_of (act_at acts (notes_of b)) ≡ script t.task.script =
        ap tree_of g.1 ∙ (sym (every-get _ acts (length b.acts - 1) g.0 m place) ∙ ap (λ (x : Task). script x.script) g.2) in
        let ans : answers_given answers ≡ t.answers = e ∙ ap answers_of_last (open-is-last b t o) in
        ap (λ (x : Tree). stop x (answers_given answers)) tree ∙ ap (stop (script t.task.script)) ans

module _ (script : List ℕ → Tree) (run : ℕ) (acts : List ActSpec) where
  -- what the answers and the notes are to the book
  pub record Meets (n : Notes) (answers : List Given) (b : Book) : Type 0 where
    pub scripted : Scripted script acts
    pub sound : Sound run (tasks acts) b
    pub here : b.run ≡ run
    pub notes_are : n ≡ notes_of b
    pub answers_are : answers_given answers ≡ answers_of_last (last_try b)

  -- the notes show the book, whose acts are the plan's
  pub record Knows (n : Notes) (answers : List Given) (b : Book) : Type 0 where
    pub scripted : Scripted script acts
    pub sound : Sound run (tasks acts) b
    pub shows : Shows run n answers b

  pub meets : (n : Notes) (answers : List Given) (b : Book) → Knows n answers b → b.run ≡ run → Meets n answers b
  meets n answers b k r = record { scripted = k.scripted; sound = k.sound; here = r; notes_are = k.shows.notes_are r; answers_are = k.shows.answers_are r }
