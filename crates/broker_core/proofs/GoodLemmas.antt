-- What is owed, and what a message adds, counts.
use Rattle.broker_core.proofs.Names.{ActSpec, ObjectId, Value, TimeParts, same_stamp, same_time, Decision, Effect, Outcome, Message, ToRead, ToWrite, Stop, Asks, Over, Tree, Heard, Reply, Ignored, Hears, Adds, Task, task_with, same_task, is_task, is_stamp, Try, Act, Book, open_try, last_try, time_of, is_none, calls_again, has_ended, may_follow, rests, another, next_clock, reads_now, writes_now, fits_end, fits_outcome, fits_try, fits_spent, fits_got, fits_acked, fits, counts, stop_of, Stage, Idle, Refused, Opening, Asking, Finishing, Stopping, Closing, by_stop, by_last, is_finished, is_closed, stage_of, stage, row, news, when, decided_commit, decided_early, start, try_or_spent, after_tries, after_act, due, by_stage, owed, NoRun, ◌≡◌, ℕ, max, ◌+◌, ◌<◌, ◌==◌, nat_lt, Bool, true, false, ◌||◌, length, List, [], ◌∷◌, refl, sym, ap, subst, Option, Some, None, if◌then◌else◌, arith, common_steps, eq-eqb, slice_get, bytes_decides, shown_to, is_settled, ends, by_clock}
use Rattle.broker_ledger.specs.Ending.TheVariants as ending
use Rattle.broker_ledger.proofs.OrderLemmas.{same_time-is}
use Rattle.broker_ledger.specs.Decision.TheVariants as decision
use Rattle.broker_ledger.specs.Effect.TheVariants as effect
use Rattle.broker_ledger.specs.Outcome.TheVariants as outcome
use Rattle.message_form.specs.declared.messages.Message.TheVariants as message
use Rattle.broker_ledger.proofs.SoundLemmas.{and-left, and-both}
use Rattle.broker_core.proofs.PhaseLemmas.{StageOf}

same_task-self : (a : Task) → same_task a a ≡ true
same_task-self a = and-both (eq-eqb a.index a.index refl) (and-both (eq-eqb a.home a.home refl) (and-both (eq-eqb a.timeout a.timeout refl)
    (and-both (eq-eqb a.tries a.tries refl) (and-both (eq-eqb a.clock a.clock refl) ((bytes_decides a.script a.script).1 refl)))))

-- an effect that is owed is no answer
abbrev pub IsPlain : Effect → Type 0
IsPlain (effect.Got k v) = ⊥
IsPlain (effect.Acked k) = ⊥
IsPlain _ = Unit {0}

pub counted : (c f : Bool) → f ≡ true → (if c then f else true) ≡ true
counted true f h = h
counted false f h = refl

closed-ends : (h : Heard) (t : Try) (e : Option Outcome) → (if is_none e then false else (is_settled e || is_stamp h.closed t.stamp)) ≡ true → (if is_none e then false else true) ≡ true
closed-ends h t None k = k
closed-ends h t (Some o) k = refl

after-greatest : (last shown c : ℕ) → next_clock last shown ≡ Some c → last < c
after-greatest last shown c e = clock-of (nat_lt (max last shown) 1099511627775) e
  where
    clock-of : (t : Bool) → (if t then Some (max last shown + 1) else None) ≡ Some c → last < c
    clock-of true e = let q : max last shown + 1 ≡ c = cc in omega arith
    clock-of false e = cc

module _ (script : List ℕ → Tree) (me run : ℕ) (plan : List Task) where
  -- the effect counts, is no answer, and begins no other run
  abbrev pub RunIs : Effect → Type 0
  RunIs (effect.Run n) = n ≡ run
  RunIs _ = Unit {0}

  abbrev pub Good : Book → Option Effect → Type 0
  Good b None = Unit {0}
  Good b (Some f) = (counts script me run plan b f ≡ true) × IsPlain f × RunIs f

  start-of : (b : Book) (o : Option Task) → slice_get plan (length b.acts) ≡ o → rests b.acts ≡ true → Good b (start o)
  start-of b None e r = tt
  start-of b (Some a) e r =
      (counted (b.run == run) _ (and-both (subst (λ (x : Option Task). is_task x (task_with a.index a.home a.timeout a.tries a.clock a.script) ≡ true) (sym e) (same_task-self a)) r), tt, tt)

  try-good : (b : Book) (a : Act) (done : List Act) (o : Option ℕ) → b.acts ≡ a ∷ done → next_clock b.clock (shown_to b a) ≡ o → is_none a.spent ≡ true → may_follow a.tries ≡ true → Good b (Some (by_clock me b a o))
  try-good b a done None e n s m =
      (counted (b.run == run) _ (subst (λ (xs : List Act). fits_spent a.task.index xs ≡ true) (sym e) (and-both (eq-eqb a.task.index a.task.index refl) (and-both s m))), tt, tt)
  try-good b a done (Some c) e n s m = (
    counted (b.run == run) _ (subst (λ (xs : List Act). fits_try me a.task.index (record { clock = c; broker = me; home = a.task.home }) b.clock xs ≡ true) (sym e)
        (and-both (eq-eqb a.task.index a.task.index refl) (and-both (eq-eqb me me refl) (and-both (eq-eqb a.task.home a.task.home refl)
        (and-both (lt-true b.clock c (after-greatest b.clock (shown_to b a) c n)) (and-both s m)))))),
    tt,
    tt,
  )
    where
      lt-true : (x y : ℕ) → x < y → nat_lt x y ≡ true
      lt-true x y h = grind (arith, common_steps)

  rests-ended : (b : Book) (a : Act) (done : List Act) → b.acts ≡ a ∷ done → is_none a.spent ≡ true → has_ended a.tries ≡ true → rests b.acts ≡ true
  rests-ended b a done e s h = subst (λ (xs : List Act). rests xs ≡ true) (sym e) (by-spent (is_none a.spent) (has_ended a.tries) h)
    where
      by-spent : (c x : Bool) → x ≡ true → (if c then x else true) ≡ true
      by-spent true x h = h
      by-spent false x h = refl

  rests-spent : (b : Book) (a : Act) (done : List Act) (c : ℕ) → b.acts ≡ a ∷ done → a.spent ≡ Some c → rests b.acts ≡ true
  rests-spent b a done c e s = subst (λ (xs : List Act). rests xs ≡ true) (sym e) (ap (λ (x : Option ℕ). if is_none x then has_ended a.tries else true) s)

  place-of : (b : Book) (a : Act) (done : List Act) → b.acts ≡ a ∷ done → slice_get plan (length b.acts) ≡ slice_get plan (length (a ∷ done))
  place-of b a done e = ap (λ (xs : List Act). slice_get plan (length xs)) e

  tries-good : (h : Heard) (b : Book) (a : Act) (done : List Act) (ts : List Try) → b.acts ≡ a ∷ done → is_none a.spent ≡ true → a.tries ≡ ts → Good b (after_tries me plan h b a ts (length (a ∷ done)))
  tries-good h b a done [] e s q = try-good b a done (next_clock b.clock (shown_to b a)) e refl s (subst (λ (xs : List Try). may_follow xs ≡ true) (sym q) refl)
  tries-good h b a done (t ∷ ts) e s q = when-closed (is_closed h t) refl
    where
      further : (c : Bool) → another a.task.tries (t ∷ ts) ≡ c → is_closed h t ≡ true → Good b (if c then Some (try_or_spent me b a) else start (slice_get plan (length (a ∷ done))))
      further true k closed = try-good b a done (next_clock b.clock (shown_to b a)) e refl s (subst (λ (xs : List Try). may_follow xs ≡ true) (sym q) (and-left (calls_again t.end) _ k))
      further false k closed = start-of b (slice_get plan (length (a ∷ done))) (place-of b a done e)
          (rests-ended b a done e s (subst (λ (xs : List Try). has_ended xs ≡ true) (sym q) (closed-ends h t t.end closed)))

      when-closed : (c : Bool) → is_closed h t ≡ c → Good b (if c then (if another a.task.tries (t ∷ ts) then Some (try_or_spent me b a) else start (slice_get plan (length (a ∷ done)))) else None)
      when-closed true closed = further (another a.task.tries (t ∷ ts)) refl closed
      when-closed false closed = tt

  act-good : (h : Heard) (b : Book) (a : Act) (done : List Act) (o : Option ℕ) → b.acts ≡ a ∷ done → a.spent ≡ o → Good b (after_act me plan h b a o (length (a ∷ done)))
  act-good h b a done None e s = tries-good h b a done a.tries e (ap is_none s) refl
  act-good h b a done (Some c) e s = start-of b (slice_get plan (length (a ∷ done))) (place-of b a done e) (rests-spent b a done c e s)

  due-good : (h : Heard) (b : Book) (as' : List Act) → b.acts ≡ as' → Good b (due me plan h b as')
  due-good h b [] e = start-of b (slice_get plan 0) (ap (λ (xs : List Act). slice_get plan (length xs)) e) (subst (λ (xs : List Act). rests xs ≡ true) (sym e) refl)
  due-good h b (a ∷ done) e = act-good h b a done a.spent e refl

  -- the End that a script has come to
  StopGood : Book → Stage → Type 0
  StopGood b (Stopping t o) = fits_outcome t.task.index o b ≡ true
  StopGood b _ = Unit {0}

  end-here : (b : Book) (t : Try) → open_try b ≡ Some t → fits_end t.task.index (open_try b) ≡ true
  end-here b t e = subst (λ (x : Option Try). fits_end t.task.index x ≡ true) (sym e) (eq-eqb t.task.index t.task.index refl)

  stop-good : (b : Book) (t : Try) (s : Stop) → open_try b ≡ Some t → StopGood b (by_stop t s)
  unfolding StopGood
  stop-good b t (Asks q) e = tt
  stop-good b t (Over ending.Finished) e = tt
  stop-good b t (Over (ending.Withdrawn l)) e = end-here b t e
  stop-good b t (Over (ending.Failed l k)) e = end-here b t e

  either-good : (b : Book) (c d : Bool) (t : Try) → open_try b ≡ Some t → StopGood b (if c then Refused t else (if d then Opening t else by_stop t (stop_of script t)))
  unfolding StopGood
  either-good b true d t e = tt
  either-good b false true t e = tt
  either-good b false false t e = stop-good b t (stop_of script t) e

  closing-good : (b : Book) (c : Bool) (t : Try) → StopGood b (if c then Idle else Closing t)
  unfolding StopGood
  closing-good b true t = tt
  closing-good b false t = tt

  last-good : (b : Book) (h : Heard) (o : Option Try) → StopGood b (by_last h o)
  unfolding StopGood
  last-good b h None = tt
  last-good b h (Some t) = closing-good b (is_none t.end || is_closed h t) t

  open-good : (b : Book) (h : Heard) (o : Option Try) → open_try b ≡ o → StopGood b (stage_of script h o (last_try b))
  open-good b h None e = last-good b h (last_try b)
  open-good b h (Some t) e = either-good b _ _ t e

  here-good : (b : Book) (c : Bool) (s : Stage) → StopGood b s → StopGood b (if c then s else Idle)
  unfolding StopGood
  here-good b true s k = k
  here-good b false s k = tt

  stage-good : (b : Book) (h : Heard) (s : Stage) → StopGood b s → Good b (by_stage me plan h b s)
  unfolding StopGood
  stage-good b h (Stopping t o) k = (counted (b.run == run) _ k, tt, tt)
  stage-good b h (Closing t) k = due-good h b b.acts refl
  stage-good b h x k = due-good h b b.acts refl

  pub owed-good : (b : Book) (h : Heard) → Good b (owed script me run plan b h)
  owed-good b h = run-first (nat_lt b.run run) refl
    where
      run-first : (c : Bool) → nat_lt b.run run ≡ c → Good b (if c then Some (effect.Run run) else by_stage me plan h b (stage script run b h))
      run-first true e = (e, tt, refl)
      run-first false e = stage-good b h (stage script run b h) (here-good b (b.run == run) _ (open-good b h (open_try b) refl))

  -- ---- what a message adds

  abbrev pub ReplyGood : Book → Reply → Type 0
  ReplyGood b Ignored = Unit {0}
  ReplyGood b (Hears h) = Unit {0}
  ReplyGood b (Adds f) = (fits script me plan b f ≡ true) × NoRun f

  when-good : (b : Book) (c : Bool) (r : Reply) → (c ≡ true → ReplyGood b r) → ReplyGood b (when c r)
  when-good b true r k = k refl
  when-good b false r k = tt

  commit-good : (b : Book) (t : Try) (d : Decision) → open_try b ≡ Some t → ReplyGood b (decided_commit t d)
  commit-good b t decision.Committed e = (end-here b t e, tt)
  commit-good b t decision.Withdrawn e = tt
  commit-good b t (decision.Expired n m) e = (end-here b t e, tt)

  early-good : (b : Book) (c : Bool) (t : Try) (d : Decision) → open_try b ≡ Some t → ReplyGood b (decided_early c t d)
  early-good b c t decision.Committed e = when-good b c (ends t outcome.Committed) (λ k. (end-here b t e, tt))
  early-good b c t decision.Withdrawn e = tt
  early-good b c t (decision.Expired n m) e = (end-here b t e, tt)

  step-of : (t : Try) (x : TimeParts) → same_time (time_of t) x ≡ true → (x.step == length t.answers + 1) ≡ true
  step-of t x e = eq-eqb x.step (length t.answers + 1) (sym (ap (λ (y : TimeParts). y.step) (same_time-is (time_of t) x e)))

  got-good : (b : Book) (t : Try) (o : ObjectId) (x : TimeParts) (v : Value) → open_try b ≡ Some t → stop_of script t ≡ Asks (ToRead o) → same_time (time_of t) x ≡ true → fits script me plan b (effect.Got x.step v) ≡ true
  got-good b t o x v e s q = subst (λ (y : Option Try). fits_got script x.step y ≡ true) (sym e) (and-both (step-of t x q) (ap reads_now s))

  acked-good : (b : Book) (t : Try) (o : ObjectId) (v : Value) (x : TimeParts) → open_try b ≡ Some t → stop_of script t ≡ Asks (ToWrite o v) → same_time (time_of t) x ≡ true → fits script me plan b (effect.Acked x.step) ≡ true
  acked-good b t o v x e s q = subst (λ (y : Option Try). fits_acked script x.step y ≡ true) (sym e) (and-both (step-of t x q) (ap writes_now s))

  idle-row : (b : Book) (h : Heard) (m : Message) → ReplyGood b (row script Idle h (news m))
  idle-row b h (message.Begin s n) = tt
  idle-row b h m = tt

  opening-row : (b : Book) (t : Try) (h : Heard) (e : open_try b ≡ Some t) (m : Message) → ReplyGood b (row script (Opening t) h (news m))
  opening-row b t h e (message.Begin s n) = tt
  opening-row b t h e (message.Begun s) = when-good b (same_stamp t.stamp s) _ (λ k. tt)
  opening-row b t h e (message.Decided s d) = when-good b (same_stamp t.stamp s) _ (λ k. early-good b (is_finished (stop_of script t)) t d e)
  opening-row b t h e (message.Ask s) = tt
  opening-row b t h e (message.Tell s c) = tt
  opening-row b t h e m = tt

  reading-row : (b : Book) (t : Try) (o : ObjectId) (h : Heard) (e : open_try b ≡ Some t) (q : stop_of script t ≡ Asks (ToRead o)) (m : Message) → ReplyGood b (row script (Asking t (ToRead o)) h (news m))
  reading-row b t o h e q (message.Begin s n) = tt
  reading-row b t o h e q (message.Begun s) = tt
  reading-row b t o h e q (message.Read x o') = tt
  reading-row b t o h e q (message.Value x v') = when-good b (same_time (time_of t) x) _ (λ k. (got-good b t o x v' e q k, tt))
  reading-row b t o h e q (message.Write x o' v') = tt
  reading-row b t o h e q (message.Stored x) = tt
  reading-row b t o h e q (message.LaterRead x e') = when-good b (same_time (time_of t) x) _ (λ k. (end-here b t e, tt))
  reading-row b t o h e q (message.LaterVersion x y) = tt
  reading-row b t o h e q (message.Ended x) = when-good b (same_time (time_of t) x) _ (λ k. tt)
  reading-row b t o h e q m = tt

  writing-row : (b : Book) (t : Try) (o : ObjectId) (v : Value) (h : Heard) (e : open_try b ≡ Some t) (q : stop_of script t ≡ Asks (ToWrite o v)) (m : Message) → ReplyGood b (row script (Asking t (ToWrite o v)) h (news m))
  writing-row b t o v h e q (message.Stored x) = when-good b (same_time (time_of t) x) _ (λ k. (acked-good b t o v x e q k, tt))
  writing-row b t o v h e q (message.LaterRead x e') = when-good b (same_time (time_of t) x) _ (λ k. (end-here b t e, tt))
  writing-row b t o v h e q (message.LaterVersion x y) = when-good b (same_time (time_of t) x) _ (λ k. (end-here b t e, tt))
  writing-row b t o v h e q (message.Ended x) = when-good b (same_time (time_of t) x) _ (λ k. tt)
  writing-row b t o v h e q (message.Commit s) = tt
  writing-row b t o v h e q (message.Withdraw s) = tt
  writing-row b t o v h e q (message.Decided s d) = tt
  writing-row b t o v h e q (message.Ask s) = tt
  writing-row b t o v h e q (message.Tell s c) = tt
  writing-row b t o v h e q m = tt

  finishing-row : (b : Book) (t : Try) (h : Heard) (e : open_try b ≡ Some t) (m : Message) → ReplyGood b (row script (Finishing t) h (news m))
  finishing-row b t h e (message.Decided s d) = when-good b (same_stamp t.stamp s) _ (λ k. commit-good b t d e)
  finishing-row b t h e (message.Ask s) = tt
  finishing-row b t h e (message.Tell s c) = tt
  finishing-row b t h e m = tt

  refused-row : (b : Book) (t : Try) (h : Heard) (e : open_try b ≡ Some t) (m : Message) → ReplyGood b (row script (Refused t) h (news m))
  refused-row b t h e (message.Decided s d) = when-good b (same_stamp t.stamp s) _ (λ k. early-good b false t d e)
  refused-row b t h e (message.Ask s) = tt
  refused-row b t h e (message.Tell s c) = tt
  refused-row b t h e m = tt

  stopping-row : (b : Book) (t : Try) (o : Outcome) (h : Heard) (m : Message) → ReplyGood b (row script (Stopping t o) h (news m))
  stopping-row b t o h (message.Begin s n) = tt
  stopping-row b t o h m = tt

  closing-row : (b : Book) (t : Try) (h : Heard) (m : Message) → ReplyGood b (row script (Closing t) h (news m))
  closing-row b t h (message.Decided s d) = when-good b (same_stamp t.stamp s) _ (λ k. tt)
  closing-row b t h (message.Ask s) = tt
  closing-row b t h (message.Tell s c) = tt
  closing-row b t h m = tt

  pub row-good : (acts : List ActSpec) (b : Book) (s : Stage) (h : Heard) (m : Message) → StageOf script run acts b s → ReplyGood b (row script s h (news m))
  unfolding StageOf
  row-good acts b Idle h m e = idle-row b h m
  row-good acts b (Refused t) h m e = refused-row b t h e m
  row-good acts b (Opening t) h m e = opening-row b t h e m
  row-good acts b (Asking t (ToRead o)) h m e = reading-row b t o h e.0 e.1 m
  row-good acts b (Asking t (ToWrite o v)) h m e = writing-row b t o v h e.0 e.1 m
  row-good acts b (Finishing t) h m e = finishing-row b t h e m
  row-good acts b (Stopping t o) h m e = stopping-row b t o h m
  row-good acts b (Closing t) h m e = closing-row b t h m
