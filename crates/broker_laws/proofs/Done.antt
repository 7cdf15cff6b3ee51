-- where nothing is owed and nothing stands, the broker is done; and which try may be open
use Rattle.broker_laws.proofs.Names.{Task, Effect, Outcome, Post, Act, Book, Try, book, close, enter, front, on_act, open_of, open_try, time_of, tries_of, another, is_none, outcome_by, stop_of, after_act, after_tries, by_stage, due, owed, start, try_or_spent, Closing, Idle, Opening, Refused, Stage, Stopping, by_stop, is_asking, is_closed, no_answer, of_open, stage, stage_of, standing, is_stamp, is_time, Desk, state, all_effects, Heard, Started, FitsBook, IsTidy, may_start, IsRested, TurnHolds, Asks, Over, Stop, ToRead, ToWrite, Tree, ◌≡◌, ℕ, zero, suc, ◌<◌, ◌≤◌, ◌==◌, nat_lt, Bool, true, false, ◌&&◌, ◌||◌, length, List, [], ◌∷◌, ◌++◌, refl, sym, subst, Option, Some, None, if◌then◌else◌, arith, eq-eqb, slice_get_within, common_steps, slice_get, has_outcome, all_over, done}
use Rattle.effect_form.specs.declared.effects.Effect.TheVariants as effect
use Rattle.effect_form.specs.declared.outcomes.Outcome.TheVariants as outcome
use Rattle.value_form.specs.declared.endings.Ending.TheVariants as ending
use Rattle.broker_laws.proofs.Kept.{kept, started}
use Rattle.broker_laws.proofs.Moves.{grown}
use Rattle.broker_laws.proofs.TestLemmas.{and-both}

past-end : (xs : List Task) (n : ℕ) → slice_get xs n ≡ None → length xs ≤ n
past-end [] n h = omega arith
past-end (x ∷ xs) zero h = cc
past-end (x ∷ xs) (suc n) h = let k = past-end xs n h in omega (arith, k)

-- all acts of the run but the newest have their outcome
abbrev pub before_over : List Act → Bool
before_over [] = true
before_over (a ∷ acts) = all_over acts

before-on : (g : Act → Act) (as' : List Act) → before_over as' ≡ true → before_over (on_act g as') ≡ true
before-on g [] h = h
before-on g (a ∷ as') h = h

module _ (script : List ℕ → Tree) (me : ℕ) where
  before-close : (o : Outcome) (b : Book) → before_over b.acts ≡ true → before_over (close o b).acts ≡ true
  before-close outcome.Committed b h = before-on _ b.acts h
  before-close o b h = before-on _ b.acts h

  before-act : (as' : List Act) → may_start as' ≡ true → before_over as' ≡ true → all_over as' ≡ true
  before-act [] m h = refl
  before-act (a ∷ as') m h = and-both m h

  before-enter : (b : Book) (f : Effect) → FitsBook script me b f → before_over b.acts ≡ true → before_over (enter f b).acts ≡ true
  before-enter b (effect.Run n) f h = refl
  before-enter b (effect.Act i x t k c y) f h = before-act b.acts f h
  before-enter b (effect.Try i s) f h = before-on _ b.acts h
  before-enter b (effect.Got k v) f h = before-on _ b.acts h
  before-enter b (effect.Acked k) f h = before-on _ b.acts h
  before-enter b (effect.End i o) f h = before-close o b h
  before-enter b g f h = h

  pub before-tidy : (log : List Effect) → IsTidy script me log → before_over (book log).acts ≡ true
  unfolding book
  before-tidy [] t = refl
  before-tidy (f ∷ log) t = before-enter (book log) f t.1 (before-tidy log t.0)

  module _ (run : ℕ) (acts : List Task) where
    some-none : {A : Type 0} (x : A) → Some x ≡ None → ⊥
    some-none x e = cc

    -- an open try always stands or stops
    by-stop-busy : (h : Heard) (b : Book) (t : Try) (s : Stop) → standing (by_stop t s) ≡ None → by_stage me acts h b (by_stop t s) ≡ None → ⊥
    by-stop-busy h b t (Asks (ToRead o)) s w = cc
    by-stop-busy h b t (Asks (ToWrite o v)) s w = cc
    by-stop-busy h b t (Over ending.Finished) s w = cc
    by-stop-busy h b t (Over _) s w = cc

    if-busy : (h : Heard) (b : Book) (c : Bool) (x y : Stage) →
        (standing x ≡ None → by_stage me acts h b x ≡ None → ⊥) → (standing y ≡ None → by_stage me acts h b y ≡ None → ⊥) →
        standing (if c then x else y) ≡ None → by_stage me acts h b (if c then x else y) ≡ None → ⊥
    if-busy h b true x y p q = p
    if-busy h b false x y p q = q

    open-busy : (h : Heard) (b : Book) (t : Try) → standing (of_open script h t) ≡ None → by_stage me acts h b (of_open script h t) ≡ None → ⊥
    open-busy h b t =
        if-busy h b (is_asking (stop_of script t) && is_time h.ended (time_of t)) (Refused t)
        (if no_answer t && (if is_stamp h.begun t.stamp then false else true) then Opening t else by_stop t (stop_of script t))
        (λ s w. some-none _ s)
        (if-busy h b (no_answer t && (if is_stamp h.begun t.stamp then false else true)) (Opening t) (by_stop t (stop_of script t))
        (λ s w. some-none _ s) (by-stop-busy h b t (stop_of script t)))

    -- nothing is due where the newest act has its outcome and no act is left
    AllDone : List Act → Type 0
    AllDone as' = ((length as' == length acts) ≡ true) × (all_over as' ≡ true)

    none-at : (n : ℕ) → start (slice_get acts n) ≡ None → length acts ≤ n
    none-at n h = (elim (slice_get acts n) as (λ o. slice_get acts n ≡ o → start o ≡ None → length acts ≤ n) [ None ↦ λ e k. past-end acts n e | Some a ↦ λ e k. cc ]) refl h

    closed-ended : (o : Option Outcome) (x y : Bool) → (if is_none o then false else x) ≡ true → y ≡ false → (if is_none o then false else (if y then false else true)) ≡ true
    closed-ended None x y h k = h
    closed-ended (Some o) x y h k = rw k refl

    idle-closed : (h : Heard) (b : Book) (t : Try) (o : Option Outcome) → t.end ≡ o → open_try b ≡ Rattle.broker_core.specs.Book.if_open t o →
        standing (stage_of script h (Rattle.broker_core.specs.Book.if_open t o) (Some t)) ≡ None →
        by_stage me acts h b (stage_of script h (Rattle.broker_core.specs.Book.if_open t o) (Some t)) ≡ None → is_closed h t ≡ true
    idle-closed h b t None e k s w = absurd (open-busy h b t s w)
    idle-closed h b t (Some o) e k s w = closed (is_closed h t) (subst (λ z. standing (if is_none z || is_closed h t then Idle else Closing t) ≡ None) e s)
      where
        closed : (c : Bool) → standing (if c then Idle else Closing t) ≡ None → c ≡ true
        closed true s = refl
        closed false s = cc

    over-tries : (h : Heard) (b : Book) (a : Act) (rest : List Act) (ts : List Try) → a.spent ≡ None → a.tries ≡ ts →
        ((t : Try) (us : List Try) → ts ≡ t ∷ us → is_closed h t ≡ true) →
        after_tries me acts h b a ts (length (a ∷ rest)) ≡ None → (length acts ≤ length (a ∷ rest)) × (has_outcome a ≡ true)
    over-tries h b a rest [] n e c w = cc
    over-tries h b a rest (t ∷ ts) n e c w =
        let k : is_closed h t ≡ true = c t ts refl in
        next (another a.task.tries (t ∷ ts)) refl
        (subst (λ z. (if z then (if another a.task.tries (t ∷ ts) then Some (try_or_spent me b a) else start (slice_get acts (length (a ∷ rest)))) else None) ≡ None) k w)
        k
      where
        next : (y : Bool) → another a.task.tries (t ∷ ts) ≡ y →
            (if y then Some (try_or_spent me b a) else start (slice_get acts (length (a ∷ rest)))) ≡ None →
            is_closed h t ≡ true → (length acts ≤ length (a ∷ rest)) × (has_outcome a ≡ true)
        next true e' w k = cc
        next false e' w k = (
          none-at (length (a ∷ rest)) w,
          subst (λ o. (if is_none o then outcome_by a.task.tries a.tries else true) ≡ true) (sym n)
              (subst (λ xs. outcome_by a.task.tries xs ≡ true) (sym e) (closed-ended t.end _ (another a.task.tries (t ∷ ts)) k e')),
        )

    length-same : (a : Act) (rest : List Act) → Started acts (a ∷ rest) → length acts ≤ length (a ∷ rest) → (length (a ∷ rest) == length acts) ≡ true
    length-same a rest s h =
        let k : length rest < length acts = slice_get_within acts (length rest) a.task s.1 in
        eq-eqb (length (a ∷ rest)) (length acts) (omega arith)

    due-done : (h : Heard) (b : Book) (as' : List Act) → b.acts ≡ as' → Started acts as' → before_over as' ≡ true →
        standing (stage_of script h (open_of as') (front (tries_of as'))) ≡ None →
        by_stage me acts h b (stage_of script h (open_of as') (front (tries_of as'))) ≡ None →
        due me acts h b as' ≡ None → AllDone as'
    unfolding AllDone
    due-done h b [] l st bo s w d = let n : length acts ≤ 0 = none-at 0 d in (eq-eqb 0 (length acts) (omega arith), refl)
    due-done h b (a ∷ rest) l st bo s w d = by a.spent refl d
      where
        closed : (t : Try) (us : List Try) → a.tries ≡ t ∷ us → is_closed h t ≡ true
        closed t us e =
            idle-closed h b t t.end refl
            (subst (λ as'. open_of as' ≡ Rattle.broker_core.specs.Book.if_open t t.end) (sym l)
            (subst (λ xs. Rattle.broker_core.specs.Book.open_front xs ≡ Rattle.broker_core.specs.Book.if_open t t.end) (sym e) refl))
            (subst (λ xs. standing (stage_of script h (Rattle.broker_core.specs.Book.open_front xs) (front (xs ++ tries_of rest))) ≡ None) e s)
            (subst (λ xs. by_stage me acts h b (stage_of script h (Rattle.broker_core.specs.Book.open_front xs) (front (xs ++ tries_of rest))) ≡ None) e w)

        by : (o : Option ℕ) → a.spent ≡ o → after_act me acts h b a o (length (a ∷ rest)) ≡ None → AllDone (a ∷ rest)
        by None e d =
            let r = over-tries h b a rest a.tries e refl closed d in
            (length-same a rest st r.0, and-both r.1 bo)
        by (Some c) e d = (length-same a rest st (none-at (length (a ∷ rest)) d), and-both (subst (λ o. (if is_none o then outcome_by a.task.tries a.tries else true) ≡ true) (sym e) refl) bo)

    -- a stage at which nothing stands and nothing is owed
    due-of : (h : Heard) (b : Book) (st : Stage) → standing st ≡ None → by_stage me acts h b st ≡ None → due me acts h b b.acts ≡ None
    due-of h b (Stopping t o) s w = cc
    due-of h b (Closing t) s w = w
    due-of h b x s w = w

    same-run : (m n : ℕ) → nat_lt m n ≡ false → nat_lt n m ≡ false → m ≡ n
    same-run m n h k = grind (arith, common_steps)

    ran : (b : Book) (h : Heard) → owed script me run acts b h ≡ None → (nat_lt b.run run ≡ false) × (by_stage me acts h b (stage script run b h) ≡ None)
    ran b h w = by (nat_lt b.run run) refl w
      where
        by : (c : Bool) → nat_lt b.run run ≡ c → (if c then Some (effect.Run run) else by_stage me acts h b (stage script run b h)) ≡ None →
            (nat_lt b.run run ≡ false) × (by_stage me acts h b (stage script run b h) ≡ None)
        by true e w = cc
        by false e w = (e, w)

    -- where nothing is owed and nothing stands, the broker is done
    pub rested-done : (ever : List Post) (d : Desk) → TurnHolds script me run acts ever d → IsRested script me run acts d →
        standing (stage script run (state script me run acts d) d.heard) ≡ None → done script run acts (state script me run acts d) d.heard ≡ true
    unfolding AllDone
    rested-done ever d k r s =
        let tidy : IsTidy script me (all_effects d) = grown script me d.past d.added k.desk.tidy k.desk.grew in
        let e : Rattle.broker_core.specs.Fits.keep script me run acts (all_effects d) ≡ all_effects d = kept script me run acts (all_effects d) tidy k.ready.same_plan in
        let b : Book = state script me run acts d in
        let w = ran b d.heard r in
        let m : b.run ≡ run = same-run b.run run w.0 k.ready.not_old in
        let bo : before_over b.acts ≡ true = subst (λ l. before_over (book l).acts ≡ true) (sym e) (before-tidy (all_effects d) tidy) in
        let m' : (book (all_effects d)).run ≡ run = subst (λ l. (book l).run ≡ run) e m in
        let st : Started acts b.acts = subst (λ l. Started acts (book l).acts) (sym e) (started script me run acts (all_effects d) tidy k.ready.same_plan m') in
        let q : (b.run == run) ≡ true = eq-eqb b.run run m in
        let s' : standing (stage_of script d.heard (open_of b.acts) (front (tries_of b.acts))) ≡ None =
        subst (λ c. standing (if c then stage_of script d.heard (open_of b.acts) (front (tries_of b.acts)) else Idle) ≡ None) q s in
        let w' : by_stage me acts d.heard b (stage_of script d.heard (open_of b.acts) (front (tries_of b.acts))) ≡ None =
        subst (λ c. by_stage me acts d.heard b (if c then stage_of script d.heard (open_of b.acts) (front (tries_of b.acts)) else Idle) ≡ None) q w.1 in
        let x = due-done d.heard b b.acts refl st bo s' w' (due-of d.heard b _ s' w') in
        and-both (subst (λ c. (if c then (length b.acts == length acts) && all_over b.acts else length acts == 0) ≡ true) (sym q) (and-both x.0 x.1))
        (subst (λ o. is_none o ≡ true) (sym s) refl)
