-- the fuel suffices: after a turn that settles up nothing is owed, over any log
use Rattle.broker_laws.proofs.Names.{Task, Effect, Outcome, Act, Book, Try, book, enter, finish, on_front, on_try, open_front, open_of, calls_again, is_none, next_clock, shown_to, after_act, after_tries, by_clock, by_stage, due, owed, start, Stage, Stopping, is_closed, stage, Desk, fuel, note, note_if, settle_up, state, Heard, IsRested, Tree, ◌≡◌, ℕ, zero, suc, ◌+◌, ◌*◌, ◌-◌, ◌<◌, ◌≤◌, max, nat_lt, Bool, true, false, ◌&&◌, length, List, [], ◌∷◌, refl, sym, ap, subst, Option, Some, None, if◌then◌else◌, arith, slice_get_within, common_steps, slice_get}
use Rattle.effect_form.specs.declared.effects.Effect.TheVariants as effect
use Rattle.effect_form.specs.declared.outcomes.Outcome.TheVariants as outcome
use Rattle.broker_laws.proofs.Desks.{OwedOk, StageOk, Stops, note-state, owed-ok, stage-ok}

-- what the newest act may still add by itself
abbrev left_of : Option ℕ → List Try → ℕ
left_of (Some c) [] = 0
left_of (Some c) (t ∷ ts) = if is_none t.end then 1 else 0
left_of None [] = 2
left_of None (t ∷ ts) = if is_none t.end then 1 else (if calls_again t.end then 2 else 0)

abbrev head_left : List Act → ℕ
head_left [] = 0
head_left (a ∷ done) = left_of a.spent a.tries

most : (spent : Option ℕ) (ts : List Try) → left_of spent ts ≤ 2
most (Some c) [] = omega arith
most (Some c) (t ∷ ts) = elim (is_none t.end) as (λ c. (if c then 1 else 0) ≤ 2) [ true ↦ omega arith | false ↦ omega arith ]
most None [] = omega arith
most None (t ∷ ts) = one (is_none t.end) (calls_again t.end)
  where
    one : (c d : Bool) → (if c then 1 else (if d then 2 else 0)) ≤ 2
    one true d = omega arith
    one false true = omega arith
    one false false = omega arith

not-below : (n : ℕ) → nat_lt n n ≡ false
not-below n = grind (arith, common_steps)

module _ (script : List ℕ → Tree) (me run : ℕ) (acts : List Task) where
  abbrev left_on : List Act → ℕ
  left_on as' = 3 * (length acts - length as') + head_left as'

  abbrev left : Book → ℕ
  left b = if nat_lt b.run run then 3 * length acts + 1 else left_on b.acts

  -- an owed effect but Run leaves the run, and leaves less
  abbrev Falls : Book → Option Effect → Type 0
  Falls b None = Unit {0}
  Falls b (Some f) = ((enter f b).run ≡ b.run) × (left_on (enter f b).acts < left_on b.acts)

  if-falls : (b : Book) (c : Bool) (x y : Option Effect) → (c ≡ true → Falls b x) → (c ≡ false → Falls b y) → Falls b (if c then x else y)
  if-falls b true x y h k = h refl
  if-falls b false x y h k = k refl

  end-none : (x : Try) (ts : List Try) (t : Try) → open_front (x ∷ ts) ≡ Some t → x.end ≡ None
  end-none x ts t e = (elim x.end as (λ o. Rattle.broker_core.specs.Book.if_open x o ≡ Some t → o ≡ None) [ None ↦ λ e. refl | Some o ↦ λ e. cc ]) e

  stop-left : (o : Outcome) → calls_again (Some o) ≡ false → (spent : Option ℕ) (ts : List Try) (t : Try) → open_front ts ≡ Some t → left_of spent (on_front (finish o) ts) < left_of spent ts
  stop-left o c spent [] t e = cc
  stop-left o c (Some x) (y ∷ ts) t e = subst (λ z. 0 < (if is_none z then 1 else 0)) (sym (end-none y ts t e)) (omega arith)
  stop-left o c None (y ∷ ts) t e =
      subst (λ z. (if calls_again (Some o) then 2 else 0) < (if is_none z then 1 else (if calls_again z then 2 else 0))) (sym (end-none y ts t e))
      (rw c (omega arith))

  stop-falls : (o : Outcome) → calls_again (Some o) ≡ false → (as' : List Act) (t : Try) → open_of as' ≡ Some t → left_on (on_try (finish o) as') < left_on as'
  stop-falls o c [] t e = cc
  stop-falls o c (a ∷ done) t e = let h : left_of a.spent (on_front (finish o) a.tries) < left_of a.spent a.tries = stop-left o c a.spent a.tries t e in omega (arith, h)

  stops-fall : (b : Book) (t : Try) (o : Outcome) → open_of b.acts ≡ Some t → Stops script me run acts t o → Falls b (Some (effect.End t.task.index o))
  stops-fall b t outcome.Committed e h = absurd h
  stops-fall b t (outcome.Withdrawn l) e h = (refl, stop-falls (outcome.Withdrawn l) refl b.acts t e)
  stops-fall b t (outcome.Failed l k) e h = (refl, stop-falls (outcome.Failed l k) refl b.acts t e)
  stops-fall b t w e h = absurd h

  start-falls : (b : Book) (o : Option Task) → slice_get acts (length b.acts) ≡ o → Falls b (start o)
  start-falls b None e = tt
  start-falls b (Some a) e = let k : length b.acts < length acts = slice_get_within acts (length b.acts) a e in (refl, omega (arith, k))

  start-at : (b : Book) (as' : List Act) → b.acts ≡ as' → Falls b (start (slice_get acts (length as')))
  start-at b as' l = subst (λ xs. Falls b (start (slice_get acts (length xs)))) l (start-falls b (slice_get acts (length b.acts)) refl)

  -- another try, or Spent
  more-falls : (b : Book) (a : Act) (done : List Act) (o : Option ℕ) (ts : List Try) → b.acts ≡ a ∷ done → a.spent ≡ None → a.tries ≡ ts →
      left_of None ts ≡ 2 → left_of (Some 0) ts ≡ 0 → Falls b (Some (by_clock me b a o))
  more-falls b a done (Some c) ts l n e two none = (
    refl,
    subst (λ xs. left_on (enter (effect.Try a.task.index (record { clock = c; broker = me; home = a.task.home })) (record b { acts = xs })).acts < left_on xs) (sym l)
        (subst (λ (o : Option ℕ). 3 * (length acts - length (a ∷ done)) + left_of o (Rattle.broker_core.specs.Book.new_try a (record { clock = c; broker = me; home = a.task.home }) ∷ a.tries) < 3 * (length acts - length (a ∷ done)) + left_of o a.tries) (sym n)
        (subst (λ xs. 3 * (length acts - length (a ∷ done)) + 1 < 3 * (length acts - length (a ∷ done)) + left_of None xs) (sym e) (rw two (omega arith)))),
  )
  more-falls b a done None ts l n e two none = (
    refl,
    subst (λ xs. left_on (enter (effect.End a.task.index (outcome.Spent (max b.clock (shown_to b a)))) (record b { acts = xs })).acts < left_on xs) (sym l)
        (subst (λ (o : Option ℕ). 3 * (length acts - length (a ∷ done)) + left_of (Some (max b.clock (shown_to b a))) a.tries < 3 * (length acts - length (a ∷ done)) + left_of o a.tries) (sym n)
        (subst (λ xs. 3 * (length acts - length (a ∷ done)) + left_of (Some (max b.clock (shown_to b a))) xs < 3 * (length acts - length (a ∷ done)) + left_of None xs) (sym e)
        (rw two (spent-less ts none)))),
  )
    where
      spent-less : (ts : List Try) → left_of (Some 0) ts ≡ 0 → 3 * (length acts - length (a ∷ done)) + left_of (Some (max b.clock (shown_to b a))) ts < 3 * (length acts - length (a ∷ done)) + 2
      spent-less [] z = omega arith
      spent-less (t ∷ ts) z = rw z (omega arith)

  closed-two : (o : Option Outcome) (x y : Bool) → (if is_none o then false else x) ≡ true → (calls_again o && y) ≡ true → ◌≡◌ {A = ℕ} (if is_none o then 1 else (if calls_again o then 2 else 0)) 2
  closed-two None x y h k = cc
  closed-two (Some o) x y h k = (elim (calls_again (Some o)) as (λ c. (c && y) ≡ true → ◌≡◌ {A = ℕ} (if c then 2 else 0) 2) [ true ↦ λ k. refl | false ↦ λ k. cc ]) k

  closed-none : (o : Option Outcome) (x : Bool) → (if is_none o then false else x) ≡ true → ◌≡◌ {A = ℕ} (if is_none o then 1 else 0) 0
  closed-none None x h = cc
  closed-none (Some o) x h = refl

  after-tries-falls : (h : Heard) (b : Book) (a : Act) (done : List Act) (ts : List Try) → b.acts ≡ a ∷ done → a.spent ≡ None → a.tries ≡ ts →
      Falls b (after_tries me acts h b a ts (length (a ∷ done)))
  after-tries-falls h b a done [] l n e = more-falls b a done (next_clock b.clock (shown_to b a)) [] l n e refl refl
  after-tries-falls h b a done (t ∷ ts) l n e =
      if-falls b (is_closed h t) _ None
      (λ c. if-falls b (calls_again t.end && nat_lt (length (t ∷ ts)) a.task.tries) _ _
      (λ k. more-falls b a done (next_clock b.clock (shown_to b a)) (t ∷ ts) l n e (closed-two t.end _ _ c k) (closed-none t.end _ c))
      (λ k. start-at b (a ∷ done) l))
      (λ c. tt)

  after-act-falls : (h : Heard) (b : Book) (a : Act) (done : List Act) (o : Option ℕ) → b.acts ≡ a ∷ done → a.spent ≡ o → Falls b (after_act me acts h b a o (length (a ∷ done)))
  after-act-falls h b a done None l e = after-tries-falls h b a done a.tries l e refl
  after-act-falls h b a done (Some c) l e = start-at b (a ∷ done) l

  due-falls : (h : Heard) (b : Book) (as' : List Act) → b.acts ≡ as' → Falls b (due me acts h b as')
  due-falls h b [] l = start-at b [] l
  due-falls h b (a ∷ done) l = after-act-falls h b a done a.spent l refl

  by-stage-falls : (h : Heard) (b : Book) (st : Stage) → StageOk script me run acts b st → Falls b (by_stage me acts h b st)
  by-stage-falls h b (Stopping t o) ok = stops-fall b t o ok.0 ok.1
  by-stage-falls h b x ok = due-falls h b b.acts refl

  -- each owed effect leaves less
  abbrev Less : Book → Option Effect → Type 0
  Less b None = Unit {0}
  Less b (Some f) = left (enter f b) < left b

  less-of : (b : Book) (o : Option Effect) → nat_lt b.run run ≡ false → Falls b o → Less b o
  less-of b None e h = tt
  less-of b (Some f) e h =
      let e' : nat_lt (enter f b).run run ≡ false = subst (λ r. nat_lt r run ≡ false) (sym h.0) e in
      rw e' (rw e h.1)

  falls : (b : Book) (h : Heard) → Less b (owed script me run acts b h)
  falls b h = cases (nat_lt b.run run) refl
    where
      cases : (c : Bool) → nat_lt b.run run ≡ c → Less b (if c then Some (effect.Run run) else by_stage me acts h b (stage script run b h))
      cases true e = rw (not-below run) (rw e (omega arith))
      cases false e = less-of b _ e (by-stage-falls h b (stage script run b h) (stage-ok script me run acts b h))

  left-most : (b : Book) → left b ≤ fuel acts
  left-most b = cases (nat_lt b.run run)
    where
      cases : (c : Bool) → (if c then 3 * length acts + 1 else left_on b.acts) ≤ 3 * length acts + 3
      cases true = omega arith
      cases false = elim b.acts as (λ as'. left_on as' ≤ 3 * length acts + 3) [ [] ↦ omega arith | a ∷ done ↦ (let k = most a.spent a.tries in omega (arith, k)) ]

  -- nothing is owed
  none-left : (b : Book) (o : Option Effect) → Less b o → left b ≤ 0 → o ≡ None
  none-left b None h z = refl
  none-left b (Some f) h z = absurd (omega arith)

  pub settled : (n : ℕ) (d : Desk) → left (state script me run acts d) ≤ n → IsRested script me run acts (settle_up script me run acts n d)
  unfolding settle_up book
  settled zero d h = none-left (state script me run acts d) _ (falls (state script me run acts d) d.heard) h
  settled (suc n) d h =
      more (owed script me run acts (state script me run acts d) d.heard) refl (falls (state script me run acts d) d.heard)
      (owed-ok script me run acts [] (state script me run acts d) d.heard) (λ x k. settled n x k)
    where
      more : (o : Option Effect) → owed script me run acts (state script me run acts d) d.heard ≡ o → Less (state script me run acts d) o →
          OwedOk script me run acts [] (state script me run acts d) o →
          ((x : Desk) → left (state script me run acts x) ≤ n → IsRested script me run acts (settle_up script me run acts n x)) → IsRested script me run acts (note_if (settle_up script me run acts n) o d)
      more None e l g next = e
      more (Some f) e l g next =
          let s : state script me run acts (note f d) ≡ enter f (state script me run acts d) = ap (λ k. book k) (note-state script me run acts [] d f g) in
          let k : left (state script me run acts (note f d)) ≤ n = subst (λ b. left b ≤ n) (sym s) (omega arith) in
          next (note f d) k

  pub all-settled : (d : Desk) → IsRested script me run acts (settle_up script me run acts (fuel acts) d)
  all-settled d = settled (fuel acts) d (left-most (state script me run acts d))
