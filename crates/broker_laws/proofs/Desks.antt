-- each turn of a broker adds fitting effects with their evidence and right messages; and it leaves nothing owed
use Rattle.broker_laws.proofs.Names.{◌-◌, ◌≤◌}
use Rattle.broker_laws.specs.Posts.{IsNotEarly}
use Rattle.broker_laws.proofs.Names.{StampParts, TimeParts, Task, Decision, Effect, Outcome, Message, Out, Post, Act, Book, Try, book, enter, find, front, last_try, open_try, time_of, tries, tries_of, act_effect, add_if, another, first_some, fits, has_ended, is_none, keep, next_clock, other_plan, outcome_by, rests, shown_to, stop_of, unfit_act, after_act, after_tries, by_clock, by_stage, due, owed, start, Answered, Begun, Decided, News, Over_there, Refusal, decided_commit, decided_early, ends, news, row, when, Asking, Closing, Finishing, Idle, Opening, Refused, Stage, Stopping, by_stop, is_asking, is_closed, is_finished, no_answer, stage, stage_of, standing, repository, is_stamp, is_time, Desk, Go, Hear, Input, Take, desk_turn, fuel, hears, note, note_if, reply, say, send, settle_up, state, all_effects, Heard, Reply, Adds, Hears, Ignored, EndsBy, FitsBook, IsTidy, may_start, AnswerCame, Clocks, EndCame, RestsOn, HasCome, IsAskOf, IsBelow, IsKnown, MayCommit, OfOpen, PostHolds, at, MayInput, TurnHolds, same_stamp-is, same_stamp-self, Every, same_stamp, same_time, Answer, Asks, Got, Over, Request, Stop, Stored, ToRead, ToWrite, Tree, ◌≡◌, ℕ, zero, suc, ◌+◌, ◌<◌, ◌==◌, max, nat_lt, Bool, true, false, ◌&&◌, ◌||◌, length, List, [], ◌∷◌, ◌++◌, refl, sym, ap, subst, Option, Some, None, inl, inr, if◌then◌else◌, arith, append-nil, ltb-true, common_steps, slice_get, request, same_time-is}
use Rattle.pseudo_time.specs.declared.decisions.Decision.TheVariants as decision
use Rattle.effect_form.specs.declared.effects.Effect.TheVariants as effect
use Rattle.effect_form.specs.declared.outcomes.Outcome.TheVariants as outcome
use Rattle.message_form.specs.declared.messages.Message.TheVariants as message
use Rattle.value_form.specs.declared.endings.Ending.TheVariants as ending
use Rattle.broker_laws.proofs.Kept.{fit-counts, fit-planned, kept}
use Rattle.broker_laws.proofs.Moves.{at-open, clocks, grown, post-kept}
use Rattle.broker_laws.proofs.TestLemmas.{and-both, is_task-of}

-- what a stage says of the book
module _ (script : List ℕ → Tree) (me run : ℕ) (acts : List Task) where
  abbrev pub Stops : Try → Outcome → Type 0
  Stops t (outcome.Withdrawn l) = stop_of script t ≡ Over (ending.Withdrawn l)
  Stops t (outcome.Failed l k) = stop_of script t ≡ Over (ending.Failed l k)
  Stops t _ = ⊥

  abbrev pub StageOk : Book → Stage → Type 0
  StageOk b Idle = Unit {0}
  StageOk b (Refused t) = open_try b ≡ Some t
  StageOk b (Opening t) = open_try b ≡ Some t
  StageOk b (Asking t q) = (open_try b ≡ Some t) × (stop_of script t ≡ Asks q)
  StageOk b (Finishing t) = (open_try b ≡ Some t) × (stop_of script t ≡ Over ending.Finished)
  StageOk b (Stopping t o) = (open_try b ≡ Some t) × Stops t o
  StageOk b (Closing t) = last_try b ≡ Some t

  if-stage : (b : Book) (c : Bool) (x y : Stage) → StageOk b x → StageOk b y → StageOk b (if c then x else y)
  if-stage b true x y h k = h
  if-stage b false x y h k = k

  by-stop-ok : (b : Book) (t : Try) (s : Stop) → open_try b ≡ Some t → stop_of script t ≡ s → StageOk b (by_stop t s)
  by-stop-ok b t (Over ending.Finished) e h = (e, h)
  by-stop-ok b t _ e h = (e, h)

  of-stage : (b : Book) (h : Heard) (o last : Option Try) → open_try b ≡ o → last_try b ≡ last → StageOk b (stage_of script h o last)
  of-stage b h (Some t) last e l =
      if-stage b (is_asking (stop_of script t) && is_time h.ended (time_of t)) (Refused t)
      (if no_answer t && (if is_stamp h.begun t.stamp then false else true) then Opening t else by_stop t (stop_of script t)) e
      (if-stage b (no_answer t && (if is_stamp h.begun t.stamp then false else true)) (Opening t) (by_stop t (stop_of script t)) e
      (by-stop-ok b t (stop_of script t) e refl))
  of-stage b h None None e l = tt
  of-stage b h None (Some t) e l = if-stage b (is_none t.end || is_closed h t) Idle (Closing t) tt l

  pub stage-ok : (b : Book) (h : Heard) → StageOk b (stage script run b h)
  stage-ok b h = if-stage b (b.run == run) _ Idle (of-stage b h (open_try b) (last_try b) refl refl) tt

  -- what stands is a right message
  pub open-first : (b : Book) (t : Try) → open_try b ≡ Some t → (rest : List Try) × (tries b ≡ t ∷ rest) × (t.end ≡ None)
  open-first b t e = let w = at-open (λ x. x) b.acts b.past t e in (w.0, w.1, w.3)

  last-front : (t : Try) (ts less more : List Try) → (front less ≡ Some t → (rest : List Try) × (more ≡ t ∷ rest)) → front (ts ++ less) ≡ Some t → (rest : List Try) × (ts ++ more ≡ t ∷ rest)
  last-front t [] less more k e = k e
  last-front t (x ∷ ts) less more k e = let h : x ≡ t = cc in (ts ++ more, ap (λ y. y ∷ (ts ++ more)) h)

  pub last-first : (t : Try) (as' past : List Act) → front (tries_of as') ≡ Some t → (rest : List Try) × (tries_of (as' ++ past) ≡ t ∷ rest)
  last-first t [] past e = cc
  last-first t (a ∷ as') past e = last-front t a.tries (tries_of as') (tries_of (as' ++ past)) (λ k. last-first t as' past k) e

  find-first : (t : Try) (rest ts : List Try) → ts ≡ t ∷ rest → find t.stamp ts ≡ Some t
  find-first t rest ts e = subst (λ xs. find t.stamp xs ≡ Some t) (sym e) (rw (same_stamp-self t.stamp) refl)

  mine : (c : ℕ) (t : Try) (rest ts : List Try) → ts ≡ t ∷ rest → Every (IsBelow me c) ts → t.stamp.broker ≡ me
  mine c t rest ts e all = let k : Every (IsBelow me c) (t ∷ rest) = subst (λ xs. Every (IsBelow me c) xs) e all in k.0.1

  known-first : (c : ℕ) (t : Try) (rest ts : List Try) → ts ≡ t ∷ rest → Every (IsBelow me c) ts → IsKnown me ts t.stamp (repository t.stamp.home)
  known-first c t rest ts e all = (mine c t rest ts e all, refl, (t, find-first t rest ts e))

  abbrev pub PostOk : List Try → Option Out → Type 0
  PostOk ts None = Unit {0}
  PostOk ts (Some o) = PostHolds script me ts o.to o.message

  ask-first : (t : Try) (rest ts : List Try) (q : Request) → ts ≡ t ∷ rest → stop_of script t ≡ Asks q → IsAskOf script ts (time_of t) q
  ask-first t rest ts q e s = (t, find-first t rest ts e, (t.answers, [], sym (append-nil t.answers), refl, s))

  request-ok : (c : ℕ) (t : Try) (rest ts : List Try) (q : Request) → ts ≡ t ∷ rest → Every (IsBelow me c) ts → stop_of script t ≡ Asks q → PostOk ts (request t q)
  request-ok c t rest ts (ToRead o) e all s = (mine c t rest ts e all, refl, ask-first t rest ts (ToRead o) e s)
  request-ok c t rest ts (ToWrite o v) e all s = (mine c t rest ts e all, refl, ask-first t rest ts (ToWrite o v) e s)

  pub standing-ok : (b : Book) → Clocks me b → (st : Stage) → StageOk b st → PostOk (tries b) (standing st)
  standing-ok b c (Refused t) h = let w = open-first b t h in known-first b.clock t w.0 (tries b) w.1 c
  standing-ok b c (Opening t) h = let w = open-first b t h in known-first b.clock t w.0 (tries b) w.1 c
  standing-ok b c (Asking t q) h = let w = open-first b t h.0 in request-ok b.clock t w.0 (tries b) q w.1 c h.1
  standing-ok b c (Finishing t) h =
      let w = open-first b t h.0 in
      (mine b.clock t w.0 (tries b) w.1 c, refl, (t, find-first t w.0 (tries b) w.1, subst (λ o. MayCommit o) (sym w.2) tt, h.1))
  standing-ok b c (Closing t) h = let w = last-first t b.acts b.past h in known-first b.clock t w.0 (tries b) w.1 c
  standing-ok b c _ h = tt

  -- what a turn adds
  module _ (ever : List Post) where
    pub record Good (b : Book) (f : Effect) : Type 0 where
      pub fits : FitsBook script me b f
      pub came : RestsOn me ever b f
      pub planned : unfit_act script me run acts b f ≡ None
      pub run_stays : nat_lt run b.run ≡ false → nat_lt run (enter f b).run ≡ false

    to-open : (P : Try → Type 0) (o : Option Try) (t : Try) → o ≡ Some t → P t → OfOpen o P
    to-open P o t e h = subst (λ x. OfOpen x P) (sym e) h

    good-end : (b : Book) (t : Try) (o : Outcome) → open_try b ≡ Some t → EndsBy script t o → EndCame me ever t o → Good b (effect.End t.task.index o)
    good-end b t (outcome.Spent c) e h v = absurd h
    good-end b t o e h v = record { fits = (t, e, (refl, h)); came = to-open _ (open_try b) t e v; planned = refl; run_stays = λ n. n }

    abbrev pub ReplyOk : Book → Reply → Type 0
    ReplyOk b (Adds f) = Good b f
    ReplyOk b _ = Unit {0}

    abbrev pub NewsCame : News → Type 0
    NewsCame (Answered x a) = AnswerCame me ever x a
    NewsCame (Refusal x e true) = HasCome me ever (message.LaterRead x e)
    NewsCame (Refusal x e false) = HasCome me ever (message.LaterVersion x e)
    NewsCame (Decided s d) = HasCome me ever (message.Decided s d)
    NewsCame _ = Unit {0}

    pub news-came : (m : Message) → HasCome me ever m → NewsCame (news m)
    news-came (message.Begun s) h = tt
    news-came (message.Value x v) h = h
    news-came (message.Stored x) h = h
    news-came (message.LaterRead x e) h = h
    news-came (message.LaterVersion x y) h = h
    news-came (message.Ended x) h = tt
    news-came (message.Decided s d) h = h
    news-came m h = tt

    when-ok : (b : Book) (c : Bool) (r : Reply) → (c ≡ true → ReplyOk b r) → ReplyOk b (when c r)
    when-ok b true r h = h refl
    when-ok b false r h = tt

    -- the answer at the current step
    got-ok : (b : Book) (t : Try) (a : Answer) (x : TimeParts) → time_of t ≡ x → AnswerCame me ever x a → AnswerCame me ever (at t.stamp x.step) a
    got-ok b t a x e h = subst (λ (y : TimeParts). AnswerCame me ever (at t.stamp y.step) a) e (subst (λ (y : TimeParts). AnswerCame me ever y a) (sym e) h)

    later-came : (t : Try) (m : TimeParts → Message) (x : TimeParts) → time_of t ≡ x → HasCome me ever (m x) → HasCome me ever (m (time_of t))
    later-came t m x e h = subst (λ (y : TimeParts). HasCome me ever (m y)) (sym e) h

    decided-came : (t : Try) (s : StampParts) (d : Decision) → t.stamp ≡ s → HasCome me ever (message.Decided s d) → HasCome me ever (message.Decided t.stamp d)
    decided-came t s d e h = subst (λ y. HasCome me ever (message.Decided y d)) (sym e) h

    finished-true : (s : Stop) → is_finished s ≡ true → s ≡ Over ending.Finished
    finished-true (Over ending.Finished) h = refl
    finished-true _ h = cc

    commit-ok : (b : Book) (t : Try) (s : StampParts) (d : Decision) → open_try b ≡ Some t → stop_of script t ≡ Over ending.Finished → t.stamp ≡ s →
        HasCome me ever (message.Decided s d) → ReplyOk b (decided_commit t d)
    commit-ok b t s decision.Committed e f k h = good-end b t outcome.Committed e f (decided-came t s _ k h)
    commit-ok b t s decision.Withdrawn e f k h = tt
    commit-ok b t s (decision.Expired x m) e f k h = good-end b t (outcome.Expired x m) e tt (decided-came t s _ k h)

    early-ok : (b : Book) (done : Bool) (t : Try) (s : StampParts) (d : Decision) → open_try b ≡ Some t → (done ≡ true → stop_of script t ≡ Over ending.Finished) → t.stamp ≡ s →
        HasCome me ever (message.Decided s d) → ReplyOk b (decided_early done t d)
    early-ok b done t s decision.Committed e f k h = when-ok b done (ends t outcome.Committed) (λ y. good-end b t outcome.Committed e (f y) (decided-came t s _ k h))
    early-ok b done t s decision.Withdrawn e f k h = tt
    early-ok b done t s (decision.Expired x m) e f k h = good-end b t (outcome.Expired x m) e tt (decided-came t s _ k h)

    pub row-ok : (b : Book) (st : Stage) (h : Heard) (n : News) → StageOk b st → NewsCame n → ReplyOk b (row script st h n)
    row-ok b (Opening t) h (Begun s) ok came = when-ok b (same_stamp t.stamp s) _ (λ e. tt)
    row-ok b (Opening t) h (Decided s d) ok came = when-ok b (same_stamp t.stamp s) _ (λ e. early-ok b (is_finished (stop_of script t)) t s d ok (λ y. finished-true _ y) (same_stamp-is t.stamp s e) came)
    row-ok b (Asking t (ToRead o)) h (Answered x (Got v)) ok came =
        when-ok b (same_time (time_of t) x) _ (λ e. let k : time_of t ≡ x = same_time-is (time_of t) x e in
        record {
          fits = (t, ok.0, (ap (λ y. y.step) (sym k), (o, ok.1)));
          came = to-open _ (open_try b) t ok.0 (got-ok b t (Got v) x k came);
          planned = refl;
          run_stays = λ y. y;
        })
    row-ok b (Asking t (ToWrite o v)) h (Answered x Stored) ok came =
        when-ok b (same_time (time_of t) x) _ (λ e. let k : time_of t ≡ x = same_time-is (time_of t) x e in
        record {
          fits = (t, ok.0, (ap (λ y. y.step) (sym k), (o, v, ok.1)));
          came = to-open _ (open_try b) t ok.0 (got-ok b t Stored x k came);
          planned = refl;
          run_stays = λ y. y;
        })
    row-ok b (Asking t (ToRead o)) h (Refusal x e true) ok came =
        when-ok b (same_time (time_of t) x) _ (λ k. good-end b t (outcome.LaterRead o e) ok.0 (inl ok.1)
        (later-came t (λ y. message.LaterRead y e) x (same_time-is (time_of t) x k) came))
    row-ok b (Asking t (ToWrite o v)) h (Refusal x e true) ok came =
        when-ok b (same_time (time_of t) x) _ (λ k. good-end b t (outcome.LaterRead o e) ok.0 (inr (v, ok.1))
        (later-came t (λ y. message.LaterRead y e) x (same_time-is (time_of t) x k) came))
    row-ok b (Asking t (ToWrite o v)) h (Refusal x e false) ok came =
        when-ok b (same_time (time_of t) x) _ (λ k. good-end b t (outcome.LaterVersion o e) ok.0 (v, ok.1)
        (later-came t (λ y. message.LaterVersion y e) x (same_time-is (time_of t) x k) came))
    row-ok b (Asking t q) h (Over_there x) ok came = when-ok b (same_time (time_of t) x) _ (λ e. tt)
    row-ok b (Finishing t) h (Decided s d) ok came = when-ok b (same_stamp t.stamp s) _ (λ e. commit-ok b t s d ok.0 ok.1 (same_stamp-is t.stamp s e) came)
    row-ok b (Refused t) h (Decided s d) ok came = when-ok b (same_stamp t.stamp s) _ (λ e. early-ok b false t s d ok (λ y. absurd (let z : false ≡ true = y in cc)) (same_stamp-is t.stamp s e) came)
    row-ok b (Closing t) h (Decided s d) ok came = when-ok b (same_stamp t.stamp s) _ (λ e. tt)
    row-ok b _ h _ ok came = tt

    -- what is owed fits
    abbrev pub OwedOk : Book → Option Effect → Type 0
    OwedOk b None = Unit {0}
    OwedOk b (Some f) = Good b f

    if-owed : (b : Book) (c : Bool) (x y : Option Effect) → (c ≡ true → OwedOk b x) → (c ≡ false → OwedOk b y) → OwedOk b (if c then x else y)
    if-owed b true x y h k = h refl
    if-owed b false x y h k = k refl

    ended-by : (most : ℕ) (ts : List Try) → outcome_by most ts ≡ true → has_ended ts ≡ true
    ended-by most [] h = h
    ended-by most (t ∷ ts) h = (elim t.end as (λ o. (x : Bool) → (if is_none o then false else x) ≡ true → (if is_none o then false else true) ≡ true) [ None ↦ λ x h. h | Some o ↦ λ x h. refl ]) (if another most (t ∷ ts) then false else true) h

    rests-so : (as' : List Act) → may_start as' ≡ true → rests as' ≡ true
    rests-so [] h = refl
    rests-so (a ∷ done) h = (elim a.spent as (λ o. (if is_none o then outcome_by a.task.tries a.tries else true) ≡ true → (if is_none o then has_ended a.tries else true) ≡ true) [ None ↦ λ h. ended-by a.task.tries a.tries h | Some c ↦ λ h. refl ]) h

    start-ok : (b : Book) (o : Option Task) → slice_get acts (length b.acts) ≡ o → may_start b.acts ≡ true → OwedOk b (start o)
    start-ok b None e r = tt
    start-ok b (Some a) e r = record {
      fits = r;
      came = tt;
      planned = fit-planned (b.run == run) (fits script me acts b (act_effect a)) a.index
          (and-both (is_task-of (slice_get acts (length b.acts)) a e) (rests-so b.acts r));
      run_stays = λ y. y;
    }

    next-above : (last shown c : ℕ) → next_clock last shown ≡ Some c → last < c
    next-above last shown c h = (elim (nat_lt (max last shown) 1099511627775) as (λ y. (if y then Some (max last shown + 1) else None) ≡ Some c → last < c) [ true ↦ λ h. let e : max last shown + 1 ≡ c = cc in omega arith | false ↦ λ h. cc ]) h

    not-early : (last shown clock c : ℕ) → next_clock last (max shown (clock - 1)) ≡ Some c → clock ≤ c
    not-early last shown clock c h = (elim (nat_lt (max last (max shown (clock - 1))) 1099511627775) as (λ y. (if y then Some (max last (max shown (clock - 1)) + 1) else None) ≡ Some c → clock ≤ c) [ true ↦ λ h. let e : max last (max shown (clock - 1)) + 1 ≡ c = cc in omega arith | false ↦ λ h. cc ]) h

    by-clock-ok : (b : Book) (a : Act) (done : List Act) (o : Option ℕ) → b.acts ≡ a ∷ done → next_clock b.clock (shown_to b a) ≡ o → a.spent ≡ None → another a.task.tries a.tries ≡ true →
        Good b (by_clock me b a o)
    by-clock-ok b a done (Some c) l e n m = record {
      fits = subst (λ as'. FitsBook script me (record b { acts = as' }) (effect.Try a.task.index (record { clock = c; broker = me; home = a.task.home }))) (sym l)
          (refl, n, m, (refl, refl, next-above b.clock (shown_to b a) c e));
      came = subst (λ as'. IsNotEarly as' (record { clock = c; broker = me; home = a.task.home })) (sym l) (not-early b.clock b.shown a.task.clock c e);
      planned = refl;
      run_stays = λ y. y;
    }
    by-clock-ok b a done None l e n m = record {
      fits = subst (λ as'. FitsBook script me (record b { acts = as' }) (effect.End a.task.index (outcome.Spent (max b.clock (shown_to b a))))) (sym l)
          (refl, n, m, (e, refl));
      came = spent-came (open_try b);
      planned = refl;
      run_stays = λ y. y;
    }
      where
        spent-came : (o : Option Try) → OfOpen o (λ t. EndCame me ever t (outcome.Spent (max b.clock (shown_to b a))))
        spent-came None = tt
        spent-came (Some t) = tt

    outcome-so : (o : Option Outcome) (x y : Bool) → (if is_none o then false else x) ≡ true → y ≡ false → (if is_none o then false else (if y then false else true)) ≡ true
    outcome-so None x y h k = h
    outcome-so (Some o) x y h k = rw k refl

    start-at : (b : Book) (as' : List Act) → b.acts ≡ as' → may_start as' ≡ true → OwedOk b (start (slice_get acts (length as')))
    start-at b as' l r =
        let s : OwedOk b (start (slice_get acts (length b.acts))) =
        start-ok b (slice_get acts (length b.acts)) refl (subst (λ xs. may_start xs ≡ true) (sym l) r) in
        subst (λ xs. OwedOk b (start (slice_get acts (length xs)))) l s

    after-tries-ok : (h : Heard) (b : Book) (a : Act) (done : List Act) (ts : List Try) → b.acts ≡ a ∷ done → a.spent ≡ None → a.tries ≡ ts →
        OwedOk b (after_tries me acts h b a ts (length (a ∷ done)))
    after-tries-ok h b a done [] l n e = by-clock-ok b a done (next_clock b.clock (shown_to b a)) l refl n (subst (λ xs. another a.task.tries xs ≡ true) (sym e) refl)
    after-tries-ok h b a done (t ∷ ts) l n e =
        if-owed b (is_closed h t) _ None
        (λ c. if-owed b (another a.task.tries (t ∷ ts)) _ _
        (λ k. by-clock-ok b a done (next_clock b.clock (shown_to b a)) l refl n (subst (λ xs. another a.task.tries xs ≡ true) (sym e) k))
        (λ k. start-at b (a ∷ done) l
        (subst (λ o. (if is_none o then outcome_by a.task.tries a.tries else true) ≡ true) (sym n)
        (subst (λ xs. outcome_by a.task.tries xs ≡ true) (sym e) (outcome-so t.end _ (another a.task.tries (t ∷ ts)) c k)))))
        (λ c. tt)

    after-act-ok : (h : Heard) (b : Book) (a : Act) (done : List Act) (o : Option ℕ) → b.acts ≡ a ∷ done → a.spent ≡ o → OwedOk b (after_act me acts h b a o (length (a ∷ done)))
    after-act-ok h b a done None l e = after-tries-ok h b a done a.tries l e refl
    after-act-ok h b a done (Some c) l e = start-at b (a ∷ done) l (subst (λ o. (if is_none o then outcome_by a.task.tries a.tries else true) ≡ true) (sym e) refl)

    due-ok : (h : Heard) (b : Book) (as' : List Act) → b.acts ≡ as' → OwedOk b (due me acts h b as')
    due-ok h b [] l = start-at b [] l refl
    due-ok h b (a ∷ done) l = after-act-ok h b a done a.spent l refl

    stops-ok : (b : Book) (t : Try) (o : Outcome) → open_try b ≡ Some t → Stops t o → Good b (effect.End t.task.index o)
    stops-ok b t outcome.Committed e h = absurd h
    stops-ok b t (outcome.Withdrawn l) e h = good-end b t (outcome.Withdrawn l) e h tt
    stops-ok b t (outcome.Failed l k) e h = good-end b t (outcome.Failed l k) e h tt
    stops-ok b t w e h = absurd h

    by-stage-ok : (h : Heard) (b : Book) (st : Stage) → StageOk b st → OwedOk b (by_stage me acts h b st)
    by-stage-ok h b (Stopping t o) ok = stops-ok b t o ok.0 ok.1
    by-stage-ok h b x ok = due-ok h b b.acts refl

    not-below : (n : ℕ) → nat_lt n n ≡ false
    not-below n = grind (arith, common_steps)

    pub owed-ok : (b : Book) (h : Heard) → OwedOk b (owed script me run acts b h)
    owed-ok b h =
        if-owed b (nat_lt b.run run) (Some (effect.Run run)) _
        (λ e. record { fits = ltb-true b.run run e; came = tt; planned = refl; run_stays = λ y. not-below run })
        (λ e. by-stage-ok h b (stage script run b h) (stage-ok b h))

    -- an added effect counts, over any log
    pub note-state : (d : Desk) (f : Effect) → Good (state script me run acts d) f → keep script me run acts (all_effects (note f d)) ≡ f ∷ keep script me run acts (all_effects d)
    unfolding keep
    note-state d f g =
        subst (λ c. add_if c f (keep script me run acts (all_effects d)) ≡ f ∷ keep script me run acts (all_effects d))
        (sym (fit-counts script me run acts (state script me run acts d) f g.fits g.planned)) refl

    -- the turn
    abbrev Turn : Desk → Type 0
    Turn d = TurnHolds script me run acts ever d

    tidy-whole : (d : Desk) → Turn d → IsTidy script me (all_effects d)
    tidy-whole d k = grown script me d.past d.added k.desk.tidy k.desk.grew

    whole-kept : (d : Desk) → Turn d → keep script me run acts (all_effects d) ≡ all_effects d
    whole-kept d k = kept script me run acts (all_effects d) (tidy-whole d k) k.ready.same_plan

    each-kept : (log : List Effect) (f : Effect) (os : List Out) → IsTidy script me log → FitsBook script me (book log) f →
        Every (λ o. PostHolds script me (tries (book log)) o.to o.message) os → Every (λ o. PostHolds script me (tries (book (f ∷ log))) o.to o.message) os
    each-kept log f [] t h all = tt
    each-kept log f (o ∷ os) t h all = (post-kept script me log f o.to o.message t h all.0, each-kept log f os t h all.1)

    pub note-ok : (d : Desk) (f : Effect) → Turn d → Good (state script me run acts d) f → Turn (note f d)
    unfolding other_plan book
    note-ok d f k g =
        let g' : Good (book (all_effects d)) f = subst (λ l. Good (book l) f) (whole-kept d k) g in
        record {
          desk = record { tidy = k.desk.tidy; grew = (k.desk.grew, g'.fits); causes = (k.desk.causes, g'.came); outs = each-kept (all_effects d) f d.outs (tidy-whole d k) g'.fits k.desk.outs };
          ready = record {
            not_old = subst (λ l. nat_lt run (book l).run ≡ false) (sym (note-state d f g)) (g.run_stays k.ready.not_old);
            same_plan = subst (λ x. first_some x (unfit_act script me run acts (state script me run acts d) f) ≡ None) (sym k.ready.same_plan) g.planned;
          };
        }

    note-if-ok : (next : Desk → Desk) → ((d : Desk) → Turn d → Turn (next d)) → (d : Desk) (o : Option Effect) → Turn d → OwedOk (state script me run acts d) o → Turn (note_if next o d)
    note-if-ok next step d None k g = k
    note-if-ok next step d (Some f) k g = step (note f d) (note-ok d f k g)

    pub settle-ok : (n : ℕ) (d : Desk) → Turn d → Turn (settle_up script me run acts n d)
    unfolding settle_up
    settle-ok zero d k = k
    settle-ok (suc n) d k = note-if-ok (settle_up script me run acts n) (λ x y. settle-ok n x y) d _ k (owed-ok (state script me run acts d) d.heard)

    each-more : (P : Out → Type 0) (os : List Out) (o : Out) → Every P os → P o → Every P (os ++ (o ∷ []))
    each-more P [] o all h = (h, tt)
    each-more P (x ∷ os) o all h = (all.0, each-more P os o all.1 h)

    send-ok : (d : Desk) (o : Option Out) → Turn d → PostOk (tries (book (all_effects d))) o → Turn (send o d)
    send-ok d None k h = k
    send-ok d (Some o) k h = record { desk = record { tidy = k.desk.tidy; grew = k.desk.grew; causes = k.desk.causes; outs = each-more _ d.outs o k.desk.outs h }; ready = k.ready }

    pub say-ok : (d : Desk) → Turn d → Turn (say script me run acts d)
    say-ok d k =
        let e = whole-kept d k in
        let b : Book = state script me run acts d in
        let c' : Clocks me b = subst (λ l. Clocks me (book l)) (sym e) (clocks script me (all_effects d) (tidy-whole d k)) in
        send-ok d (standing (stage script run b d.heard)) k
        (subst (λ l. PostOk (tries (book l)) (standing (stage script run b d.heard))) e (standing-ok b c' (stage script run b d.heard) (stage-ok b d.heard)))

    hears-ok : (d : Desk) (h : Heard) → Turn d → Turn (hears h d)
    hears-ok d h k = record { desk = record { tidy = k.desk.tidy; grew = k.desk.grew; causes = k.desk.causes; outs = k.desk.outs }; ready = k.ready }

    reply-ok : (d : Desk) (r : Reply) → Turn d → ReplyOk (state script me run acts d) r → Turn (reply script me run acts d r)
    reply-ok d Ignored k g = k
    reply-ok d (Hears h) k g = say-ok _ (settle-ok (fuel acts) (hears h d) (hears-ok d h k))
    reply-ok d (Adds f) k g = say-ok _ (settle-ok (fuel acts) (note f d) (note-ok d f k g))

    -- each turn keeps the desk right
    pub desk-ok : (d : Desk) (i : Input) → Turn d → MayInput me ever i → Turn (desk_turn script me run acts d i)
    desk-ok d Go k h = say-ok _ (settle-ok (fuel acts) _ (hears-ok d _ k))
    desk-ok d (Hear m) k h = say-ok d k
    desk-ok d (Take from m) k h =
        let b : Book = state script me run acts d in
        reply-ok d _ k (row-ok b (stage script run b d.heard) d.heard (news m) (stage-ok b d.heard) (news-came m (from, h)))
