-- What a broker's messages cost, by its book: each attempt pays u to begin, v for each request, and z to end. What it has sent is never more than its attempts have paid.
use Rattle.complete_law.proofs.Names.{StampParts, TimeParts, same_stamp, same_time, same_stamp-self, Decision, Effect, Outcome, Message, Out, Answer, Got, Stored, Request, ToRead, ToWrite, Stop, Asks, Over, Tree, Heard, Reply, Adds, Hears, Ignored, Act, Book, Try, enter, finish, front, gain, last_try, new_try, on_act, on_front, on_try, open_front, open_of, open_try, time_of, tries_of, is_none, next_clock, shown_to, another, stop_of, after_act, after_tries, by_clock, by_stage, due, owed, start, try_or_spent, ends, News, Begun, Answered, Refusal, Over_there, Decided, row, news, when, decided_commit, decided_early, Stage, Idle, Refused, Opening, Asking, Finishing, Stopping, Closing, by_last, by_stop, is_asking, is_closed, is_finished, no_answer, of_open, stage, stage_of, standing, Task, is_stamp, is_time, Desk, desk_turn, fuel, hears, note_if, reply, say, settle_up, state, StageOk, stage-ok, if-open, Post, NodeId, BookSound, StageSound, stage-sound, Tells, ◌≡◌, ℕ, zero, suc, ◌+◌, ◌≤◌, ◌==◌, max, nat_lt, Bool, true, false, ◌&&◌, ◌||◌, length, List, [], ◌∷◌, ◌++◌, refl, sym, ◌∙◌, ap, subst, Option, Some, None, if◌then◌else◌, arith, slice_get, common_steps, false≢true, Ending, if_open, Good, OwedOk, Stops, owed-ok, HasCome, ReplyOk, news-came, row-ok, enter-sound, ReplySound, owed-allowed, reply-sounds, settle-outs, state-note}
use Rattle.pseudo_time.specs.declared.decisions.Decision.TheVariants as decision
use Rattle.value_form.specs.declared.endings.Ending.TheVariants as ending
use Rattle.effect_form.specs.declared.effects.Effect.TheVariants as effect
use Rattle.effect_form.specs.declared.outcomes.Outcome.TheVariants as outcome
use Rattle.message_form.specs.declared.messages.Message.TheVariants as message
use Rattle.broker_core.specs.Stages.{is_settled}
use Rattle.broker_core.specs.Turns.{note, send}
use Rattle.complete_law.proofs.Loads.{load, load-append}
use Rattle.broker_core.specs.Turns as desks

-- the open attempt is the newest
split : (g : Try → Try) (as' : List Act) (t : Try) → open_of as' ≡ Some t →
    (rest : List Try) × (tries_of as' ≡ t ∷ rest) × (tries_of (on_try g as') ≡ g t ∷ rest) × (t.end ≡ None) × (open_of (on_try g as') ≡ if_open (g t) (g t).end)
split g [] t e = absurd (cc e)
split g (a ∷ as') t e = go a.tries e
  where
    go : (ts : List Try) → open_front ts ≡ Some t → (rest : List Try) × (ts ++ tries_of as' ≡ t ∷ rest) × (on_front g ts ++ tries_of as' ≡ g t ∷ rest) × (t.end ≡ None) × (open_front (on_front g ts) ≡ if_open (g t) (g t).end)
    go [] e = absurd (cc e)
    go (x ∷ ts) e =
        let h = if-open x x.end t e in
        (ts ++ tries_of as', ap (λ y. y ∷ (ts ++ tries_of as')) h.0, ap (λ y. g y ∷ (ts ++ tries_of as')) h.0, subst (λ (y : Try). y.end ≡ None) h.0 h.1, ap (λ (y : Try). if_open (g y) (g y).end) h.0)

-- what a message of a broker costs
module _ (u v z : ℕ) where
  abbrev pub weight : Message → ℕ
  weight (message.Begin s t) = u
  weight (message.Read x o) = v
  weight (message.Write x o a) = v
  weight (message.Commit s) = z
  weight (message.Withdraw s) = z
  weight m = u

module _ (u v z : ℕ) (script : List ℕ → Tree) where
  -- ---- what is paid

  abbrev pub ac : List Answer → ℕ
  ac [] = 0
  ac (a ∷ ans) = v + ac ans

  ac-next : (ans : List Answer) (x : Answer) → ac (ans ++ x ∷ []) ≡ ac ans + v
  ac-next [] x = omega arith
  ac-next (a ∷ ans) x = let k = ac-next ans x in omega (arith, k)

  abbrev pub refused : Outcome → ℕ
  refused (outcome.LaterRead o e) = v
  refused (outcome.LaterVersion o x) = v
  refused _ = 0

  abbrev pub at-stop : Try → Stop → ℕ
  at-stop t (Asks q) = u + (ac t.answers + v)
  at-stop t (Over e) = u + (ac t.answers + z)

  abbrev pub is-fresh : Bool → Try → Bool
  is-fresh c t = no_answer t && (if c then false else true)

  abbrev pub pos-by : Option Outcome → Bool → Try → ℕ
  pos-by None c t = if is-fresh c t then u else at-stop t (stop_of script t)
  pos-by (Some o) c t = u + (ac t.answers + (refused o + z))

  -- what an attempt has paid, with the message that stands
  abbrev pub pos : Bool → Try → ℕ
  pos c t = pos-by t.end c t

  abbrev pub old : List Try → ℕ
  old [] = 0
  old (t ∷ ts) = pos true t + old ts

  abbrev pub rank : Heard → List Try → ℕ
  rank h [] = 0
  rank h (t ∷ ts) = pos (is_stamp h.begun t.stamp) t + old ts

  -- the message that stands, or will stand
  abbrev pub need : Stage → ℕ
  need Idle = 0
  need (Opening t) = u
  need (Asking t q) = v
  need _ = z

  -- ---- of one attempt

  stop-most : (t : Try) (s : Stop) → u ≤ at-stop t s
  stop-most t (Asks q) = omega arith
  stop-most t (Over e) = omega arith

  pos-more : (c : Bool) (t : Try) → pos c t ≤ pos true t
  pos-more c t = elim t.end as (λ e. pos-by e c t ≤ pos-by e true t) [ None ↦ by-fresh (no_answer t) (stop_of script t) | Some o ↦ omega arith ]
    where
      by-fresh : (n : Bool) (s : Stop) → (if n && (if c then false else true) then u else at-stop t s) ≤ (if n && false then u else at-stop t s)
      by-fresh false s = omega arith
      by-fresh true s = elim c as (λ d. (if (if d then false else true) then u else at-stop t s) ≤ at-stop t s) [ true ↦ omega arith | false ↦ stop-most t s ]

  pub rank-old : (h : Heard) (ts : List Try) → rank h ts ≤ old ts
  rank-old h [] = omega arith
  rank-old h (t ∷ ts) = let k = pos-more (is_stamp h.begun t.stamp) t in omega (arith, k)

  abbrev under : Bool → Try → ℕ
  under c t = if is-fresh c t then 0 else u + ac t.answers

  by-stop-need : (t : Try) (s : Stop) → need (by_stop t s) + (u + ac t.answers) ≤ at-stop t s
  by-stop-need t (Over ending.Finished) = omega arith
  by-stop-need t x = omega arith

  never-time : (c : Bool) (o : Option TimeParts) (x : TimeParts) → o ≡ None → (c && is_time o x) ≡ true → ⊥
  never-time true None x e m = false≢true m
  never-time false None x e m = false≢true m
  never-time c (Some y) x e m = absurd (cc e)

  -- what stands at an open attempt is paid
  need-open : (h : Heard) (t : Try) → h.ended ≡ None → t.end ≡ None → need (of_open script h t) + under (is_stamp h.begun t.stamp) t ≤ pos (is_stamp h.begun t.stamp) t
  need-open h t none open' = subst (λ (e : Option Outcome). need (of_open script h t) + under (is_stamp h.begun t.stamp) t ≤ pos-by e (is_stamp h.begun t.stamp) t) (sym open') (first (is_asking (stop_of script t) && is_time h.ended (time_of t)) refl)
    where
      second : (f : Bool) → need (if f then Opening t else by_stop t (stop_of script t)) + (if f then 0 else u + ac t.answers) ≤ (if f then u else at-stop t (stop_of script t))
      second true = omega arith
      second false = by-stop-need t (stop_of script t)

      first : (r : Bool) → (is_asking (stop_of script t) && is_time h.ended (time_of t)) ≡ r →
          need (if r then Refused t else (if is-fresh (is_stamp h.begun t.stamp) t then Opening t else by_stop t (stop_of script t))) + under (is_stamp h.begun t.stamp) t
          ≤ (if is-fresh (is_stamp h.begun t.stamp) t then u else at-stop t (stop_of script t))
      first true e = absurd (never-time (is_asking (stop_of script t)) h.ended (time_of t) none e)
      first false e = second (is-fresh (is_stamp h.begun t.stamp) t)

  -- an open attempt has paid no more than for where its script stops
  pos-stop : (c : Bool) (t : Try) (s : Stop) → t.end ≡ None → stop_of script t ≡ s → pos c t ≤ at-stop t s
  pos-stop c t s open' stops = subst (λ (e : Option Outcome). pos-by e c t ≤ at-stop t s) (sym open') (subst (λ x. (if is-fresh c t then u else at-stop t x) ≤ at-stop t s) (sym stops) (go (is-fresh c t)))
    where
      go : (f : Bool) → (if f then u else at-stop t s) ≤ at-stop t s
      go true = stop-most t s
      go false = omega arith

  gained-fresh : (c : Bool) (t : Try) (x : Answer) → is-fresh c (gain x t) ≡ false
  gained-fresh c t x = go t.answers
    where
      go : (ans : List Answer) → ((length (ans ++ x ∷ []) == 0) && (if c then false else true)) ≡ false
      go [] = refl
      go (a ∷ ans) = never (length (ans ++ x ∷ []))
        where
          never : (n : ℕ) → ((suc n == 0) && (if c then false else true)) ≡ false
          never n = let k : (suc n == 0) ≡ false = grind (arith, common_steps) in ap (λ d. d && (if c then false else true)) k

  -- ---- of a book

  module _ (me run : ℕ) (acts : List Task) where
    abbrev pub need-in : Heard → Book → ℕ
    need-in h b = need (stage script run b h)

    abbrev pub rank-in : Heard → Book → ℕ
    rank-in h b = rank h (tries_of b.acts)

    need-if : (r : Bool) (x : Stage) → need (if r then x else Idle) ≤ need x
    need-if true x = omega arith
    need-if false x = omega arith

    if-most : (r : Bool) (x y : Stage) → need y ≤ need x → need (if r then y else Idle) ≤ need (if r then x else Idle)
    if-most true x y h = h
    if-most false x y h = omega arith

    -- c and what stands are paid
    abbrev Room : ℕ → Heard → Book → Type 0
    Room c h b = c + need-in h b ≤ rank-in h b

    -- an effect pays what then stands
    abbrev Pays : Heard → Book → Effect → Type 0
    Pays h b f = (c : ℕ) → Room c h b → Room c h (enter f b)

    -- what would stand by these acts
    abbrev needed : Heard → List Act → ℕ
    needed h as' = need (stage_of script h (open_of as') (front (tries_of as')))

    abbrev RoomBy : ℕ → Heard → Bool → List Act → Type 0
    RoomBy c h r as' = c + need (if r then stage_of script h (open_of as') (front (tries_of as')) else Idle) ≤ rank h (tries_of as')

    need-last : (h : Heard) (as' : List Act) → need (by_last h (front (tries_of as'))) ≤ need (stage_of script h (open_of as') (front (tries_of as')))
    need-last h as' = go (open_of as') refl
      where
        idle : (t : Try) (rest : List Try) → tries_of as' ≡ t ∷ rest → t.end ≡ None → need (by_last h (front (tries_of as'))) ≡ 0
        idle t rest e n = subst (λ ts. need (by_last h (front ts)) ≡ 0) (sym e) (subst (λ (o : Option Outcome). need (if is_none o || is_closed h t then Idle else Closing t) ≡ 0) (sym n) refl)

        go : (o : Option Try) → open_of as' ≡ o → need (by_last h (front (tries_of as'))) ≤ need (stage_of script h o (front (tries_of as')))
        go None e = omega arith
        go (Some t) e = let s = split (λ x. x) as' t e in let k = idle t s.0 s.1 s.3 in omega (arith, k)

    act-pays : (h : Heard) (b : Book) (i x t k c : ℕ) (y : List ℕ) → Pays h b (effect.Act i x t k c y)
    act-pays h b i x t k c y n room =
        let j = if-most (b.run == run) (stage_of script h (open_of b.acts) (front (tries_of b.acts))) (by_last h (front (tries_of b.acts))) (need-last h b.acts) in
        omega (arith, room, j)

    spent-pays : (h : Heard) (b : Book) (i c : ℕ) → Pays h b (effect.End i (outcome.Spent c))
    spent-pays h b i c n = elim b.acts as (λ as'. RoomBy n h (b.run == run) as' → RoomBy n h (b.run == run) (on_act (λ a. record a { spent = Some c }) as')) [ [] ↦ λ k. k | a ∷ as' ↦ λ k. k ]

    try-pays : (h : Heard) (b : Book) (i : ℕ) (s : StampParts) → h.ended ≡ None → Pays h b (effect.Try i s)
    try-pays h b i s none n = go b.acts
      where
        go : (as' : List Act) → RoomBy n h (b.run == run) as' → RoomBy n h (b.run == run) (on_act (λ a. record a { tries = new_try a s ∷ a.tries }) as')
        go [] room = room
        go (a ∷ as') room = omega (arith, need-open h (new_try a s) none refl, rank-old h (a.tries ++ tries_of as'), need-if (b.run == run) (of_open script h (new_try a s)), room)

    -- what stands after an End is paid
    last-most : (h : Heard) (o : Option Try) → need (by_last h o) ≤ z
    last-most h None = omega arith
    last-most h (Some t) = elim (is_none t.end || is_closed h t) as (λ c. need (if c then Idle else Closing t) ≤ z) [ true ↦ omega arith | false ↦ omega arith ]

    -- the open attempt ends
    abbrev ended-acts : Book → Outcome → List Act
    ended-acts b o = on_try (finish o) b.acts

    ended-need : (h : Heard) (b : Book) (t : Try) (o : Outcome) → open_try b ≡ Some t → needed h (ended-acts b o) ≤ z
    ended-need h b t o e = subst (λ x. need (stage_of script h x (front (tries_of (ended-acts b o)))) ≤ z) (sym (split (finish o) b.acts t e).4) (last-most h (front (tries_of (ended-acts b o))))

    -- an End that the home gave leaves nothing to be said
    settled-need : (h : Heard) (b : Book) (t : Try) (o : Outcome) → open_try b ≡ Some t → is_settled (Some o) ≡ true → needed h (ended-acts b o) ≡ 0
    settled-need h b t o e settled =
        let s = split (finish o) b.acts t e in
        subst (λ x. need (stage_of script h x (front (tries_of (ended-acts b o)))) ≡ 0) (sym s.4)
        (subst (λ ts. need (by_last h (front ts)) ≡ 0) (sym s.2) (subst (λ (c : Bool). need (if (c || is_stamp h.closed t.stamp) then Idle else Closing (finish o t)) ≡ 0) (sym settled) refl))

    -- its End leaves at most m to be said, and pays j
    end-room : (c j m : ℕ) (h : Heard) (b : Book) (t : Try) (o : Outcome) → open_try b ≡ Some t → needed h (ended-acts b o) ≤ m → pos (is_stamp h.begun t.stamp) t + j ≤ u + (ac t.answers + (refused o + z)) → c + m ≤ rank-in h b + j →
        RoomBy c h (b.run == run) (ended-acts b o)
    end-room c j m h b t o e less paid k =
        let s = split (finish o) b.acts t e in
        let x : rank-in h b ≡ pos (is_stamp h.begun t.stamp) t + old s.0 = ap (rank h) s.1 in
        let y : rank h (tries_of (ended-acts b o)) ≡ u + (ac t.answers + (refused o + z)) + old s.0 = ap (rank h) s.2 in
        omega (arith, x, y, need-if (b.run == run) (stage_of script h (open_of (ended-acts b o)) (front (tries_of (ended-acts b o)))), less, paid, k)

    stop-room : (c : ℕ) (h : Heard) (b : Book) (t : Try) (o : Outcome) (x : Ending) → stage script run b h ≡ Stopping t o → open_try b ≡ Some t → stop_of script t ≡ Over x → Room c h b → RoomBy c h (b.run == run) (ended-acts b o)
    stop-room c h b t o x st e stops room =
        let y : need-in h b ≡ z = ap need st in
        end-room c 0 z h b t o e (ended-need h b t o e) (omega (arith, pos-stop (is_stamp h.begun t.stamp) t (Over x) (split (λ x. x) b.acts t e).3 stops)) (omega (arith, y, room))

    stop-pays : (h : Heard) (b : Book) (t : Try) (i : ℕ) (o : Outcome) → stage script run b h ≡ Stopping t o → open_try b ≡ Some t → Stops script me run acts t o → Pays h b (effect.End i o)
    stop-pays h b t i (outcome.Withdrawn l) st e stops c room = stop-room c h b t (outcome.Withdrawn l) (ending.Withdrawn l) st e stops room
    stop-pays h b t i (outcome.Failed l x) st e stops c room = stop-room c h b t (outcome.Failed l x) (ending.Failed l x) st e stops room
    stop-pays h b t i o st e stops c room = absurd stops

    -- ---- what is owed pays

    abbrev OptPays : Heard → Book → Option Effect → Type 0
    OptPays h b None = Unit {0}
    OptPays h b (Some f) = Pays h b f

    start-pays : (h : Heard) (b : Book) (o : Option Task) → OptPays h b (start o)
    start-pays h b None = tt
    start-pays h b (Some a) = act-pays h b a.index a.home a.timeout a.tries a.clock a.script

    clock-pays : (h : Heard) (b : Book) (a : Act) (o : Option ℕ) → h.ended ≡ None → Pays h b (by_clock me b a o)
    clock-pays h b a (Some c) n = try-pays h b a.task.index (record { clock = c; broker = me; home = a.task.home }) n
    clock-pays h b a None n = spent-pays h b a.task.index (max b.clock (shown_to b a))

    tries-pays : (h : Heard) (b : Book) (a : Act) (ts : List Try) (n : ℕ) → h.ended ≡ None → OptPays h b (after_tries me acts h b a ts n)
    tries-pays h b a [] n none = clock-pays h b a (next_clock b.clock (shown_to b a)) none
    tries-pays h b a (t ∷ ts) n none = go (is_closed h t) (another a.task.tries (t ∷ ts))
      where
        go : (c m : Bool) → OptPays h b (if c then (if m then Some (try_or_spent me b a) else start (slice_get acts n)) else None)
        go false m = tt
        go true true = clock-pays h b a (next_clock b.clock (shown_to b a)) none
        go true false = start-pays h b (slice_get acts n)

    after-pays : (h : Heard) (b : Book) (a : Act) (o : Option ℕ) (n : ℕ) → h.ended ≡ None → OptPays h b (after_act me acts h b a o n)
    after-pays h b a None n none = tries-pays h b a a.tries n none
    after-pays h b a (Some c) n none = start-pays h b (slice_get acts n)

    due-pays : (h : Heard) (b : Book) (as' : List Act) → h.ended ≡ None → OptPays h b (due me acts h b as')
    due-pays h b [] none = start-pays h b (slice_get acts 0)
    due-pays h b (a ∷ done) none = after-pays h b a a.spent (length (a ∷ done)) none

    stage-pays : (h : Heard) (b : Book) (st : Stage) → stage script run b h ≡ st → StageOk script me run acts b st → h.ended ≡ None → OptPays h b (by_stage me acts h b st)
    stage-pays h b (Stopping t o) e ok none = stop-pays h b t t.task.index o e ok.0 ok.1
    stage-pays h b x e ok none = due-pays h b b.acts none

    run-pays : (h : Heard) (b : Book) → b.acts ≡ [] → Pays h b (effect.Run run)
    run-pays h b none c room =
        let r : rank-in h b ≡ 0 = ap (λ as'. rank h (tries_of as')) none in
        omega (arith, r, need-if (run == run) Idle, room)

    owed-pays : (h : Heard) (b : Book) → h.ended ≡ None → (nat_lt b.run run ≡ true → b.acts ≡ []) → OptPays h b (owed script me run acts b h)
    owed-pays h b none early = go (nat_lt b.run run) refl
      where
        go : (c : Bool) → nat_lt b.run run ≡ c → OptPays h b (if c then Some (effect.Run run) else by_stage me acts h b (stage script run b h))
        go true e = run-pays h b (early e)
        go false e = stage-pays h b (stage script run b h) refl (stage-ok script me run acts b h) none

    -- ---- rows

    abbrev ReplyRoom : ℕ → Heard → Book → Reply → Type 0
    ReplyRoom c h b Ignored = Unit {0}
    ReplyRoom c h b (Hears g) = Room c g b
    ReplyRoom c h b (Adds f) = Room c h (enter f b)

    when-room : (c : ℕ) (h : Heard) (b : Book) (w : Bool) (r : Reply) → ReplyRoom c h b r → ReplyRoom c h b (when w r)
    when-room c h b true r k = k
    when-room c h b false r k = tt

    -- what a stage says: that the attempt is fresh, or that none is open
    abbrev Says : Heard → Book → Stage → Type 0
    Says h b (Opening t) = is-fresh (is_stamp h.begun t.stamp) t ≡ true
    Says h b (Closing t) = open_try b ≡ None
    Says h b st = Unit {0}

    if-says : (h : Heard) (b : Book) (c : Bool) (x y : Stage) → (c ≡ true → Says h b x) → Says h b y → Says h b (if c then x else y)
    if-says h b true x y p q = p refl
    if-says h b false x y p q = q

    stop-says : (h : Heard) (b : Book) (t : Try) (s : Stop) → Says h b (by_stop t s)
    stop-says h b t (Over ending.Finished) = tt
    stop-says h b t s = tt

    of-says : (h : Heard) (b : Book) (o l : Option Try) → open_try b ≡ o → Says h b (stage_of script h o l)
    of-says h b (Some t) l e =
        if-says h b (is_asking (stop_of script t) && is_time h.ended (time_of t)) (Refused t) (if is-fresh (is_stamp h.begun t.stamp) t then Opening t else by_stop t (stop_of script t)) (λ k. tt)
        (if-says h b (is-fresh (is_stamp h.begun t.stamp) t) (Opening t) (by_stop t (stop_of script t)) (λ k. k) (stop-says h b t (stop_of script t)))
    of-says h b None None e = tt
    of-says h b None (Some t) e = if-says h b (is_none t.end || is_closed h t) Idle (Closing t) (λ k. tt) e

    says : (h : Heard) (b : Book) (st : Stage) → stage script run b h ≡ st → Says h b st
    says h b st e = subst (Says h b) e (if-says h b (b.run == run) (stage_of script h (open_try b) (last_try b)) Idle (λ k. of-says h b (open_try b) (last_try b) refl) tt)

    pos-fresh : (c : Bool) (t : Try) → t.end ≡ None → is-fresh c t ≡ true → pos c t ≡ u
    pos-fresh c t n f = subst (λ (e : Option Outcome). pos-by e c t ≡ u) (sym n) (subst (λ (x : Bool). (if x then u else at-stop t (stop_of script t)) ≡ u) (sym f) refl)

    under-begun : (c : Bool) (t : Try) → c ≡ true → u ≤ under c t
    under-begun c t e = subst (λ (x : Bool). u ≤ under x t) (sym e) (elim (no_answer t) as (λ n. u ≤ (if n && false then 0 else u + ac t.answers)) [ true ↦ omega arith | false ↦ omega arith ])

    -- an open attempt goes on, and all that it had paid is under what it has paid now
    open-room : (c : ℕ) (h h' : Heard) (b : Book) (t t' : Try) (rest : List Try) (as' : List Act) → h'.ended ≡ None → t'.end ≡ None → tries_of b.acts ≡ t ∷ rest → tries_of as' ≡ t' ∷ rest → open_of as' ≡ Some t' →
        pos (is_stamp h.begun t.stamp) t ≤ under (is_stamp h'.begun t'.stamp) t' → c ≤ rank-in h b → RoomBy c h' (b.run == run) as'
    open-room c h h' b t t' rest as' none open' was is at paid k =
        let x : rank-in h b ≡ pos (is_stamp h.begun t.stamp) t + old rest = ap (rank h) was in
        let y : rank h' (tries_of as') ≡ pos (is_stamp h'.begun t'.stamp) t' + old rest = ap (rank h') is in
        let o : needed h' as' ≡ need (of_open script h' t') = ap (λ w. need (stage_of script h' w (front (tries_of as')))) at in
        omega (arith, paid, k, x, y, need-open h' t' none open', need-if (b.run == run) (stage_of script h' (open_of as') (front (tries_of as'))), o)

    begun-room : (c : ℕ) (h : Heard) (b : Book) (t : Try) → h.ended ≡ None → open_try b ≡ Some t → is-fresh (is_stamp h.begun t.stamp) t ≡ true → c ≤ rank-in h b → Room c (record h { begun = Some t.stamp }) b
    begun-room c h b t none e fresh k =
        let s = split (λ x. x) b.acts t e in
        let l = under-begun (is_stamp (Some t.stamp) t.stamp) t (same_stamp-self t.stamp) in
        open-room c h (record h { begun = Some t.stamp }) b t t s.0 b.acts none s.3 s.1 s.1 e (omega (arith, pos-fresh (is_stamp h.begun t.stamp) t s.3 fresh, l)) k

    gain-room : (c : ℕ) (h : Heard) (b : Book) (t : Try) (q : Request) (a : Answer) → h.ended ≡ None → open_try b ≡ Some t → stop_of script t ≡ Asks q → c ≤ rank-in h b → Room c h (record b { acts = on_try (gain a) b.acts })
    gain-room c h b t q a none e asks k =
        let s = split (gain a) b.acts t e in
        let f : under (is_stamp h.begun t.stamp) (gain a t) ≡ u + ac (t.answers ++ a ∷ []) = ap (λ (w : Bool). if w then 0 else u + ac (t.answers ++ a ∷ [])) (gained-fresh (is_stamp h.begun t.stamp) t a) in
        open-room c h h b t (gain a t) s.0 (on_try (gain a) b.acts) none s.3 s.1 s.2 (s.4 ∙ ap (if_open (gain a t)) s.3) (omega (arith, pos-stop (is_stamp h.begun t.stamp) t (Asks q) s.3 asks, f, ac-next t.answers a)) k

    refused-room : (c : ℕ) (h : Heard) (b : Book) (t : Try) (q : Request) (o : Outcome) → open_try b ≡ Some t → stop_of script t ≡ Asks q → refused o ≡ v → c ≤ rank-in h b → RoomBy c h (b.run == run) (ended-acts b o)
    refused-room c h b t q o e asks is k = end-room c z z h b t o e (ended-need h b t o e) (omega (arith, pos-stop (is_stamp h.begun t.stamp) t (Asks q) (split (λ x. x) b.acts t e).3 asks, is)) (omega (arith, k))

    settled-room : (c : ℕ) (h : Heard) (b : Book) (t : Try) (o : Outcome) → open_try b ≡ Some t → is_settled (Some o) ≡ true → pos (is_stamp h.begun t.stamp) t ≤ u + (ac t.answers + z) → c ≤ rank-in h b → RoomBy c h (b.run == run) (ended-acts b o)
    settled-room c h b t o e settled p k = let n = settled-need h b t o e settled in end-room c 0 0 h b t o e (omega (arith, n)) (omega (arith, p)) (omega (arith, k))

    closed-room : (c : ℕ) (h : Heard) (b : Book) (t : Try) → open_try b ≡ None → last_try b ≡ Some t → c ≤ rank-in h b → Room c (record h { closed = Some t.stamp }) b
    closed-room c h b t none last k =
        let n : need (stage_of script (record h { closed = Some t.stamp }) (open_try b) (last_try b)) ≡ 0 =
        subst (λ o. need (stage_of script (record h { closed = Some t.stamp }) o (last_try b)) ≡ 0) (sym none) (subst (λ o. need (by_last (record h { closed = Some t.stamp }) o) ≡ 0) (sym last) (shut (is_none t.end) (is_settled t.end))) in
        omega (arith, k, need-if (b.run == run) (stage_of script (record h { closed = Some t.stamp }) (open_try b) (last_try b)), n)
      where
        shut : (n s : Bool) → need (if n || (if n then false else (s || is_stamp (Some t.stamp) t.stamp)) then Idle else Closing t) ≡ 0
        shut true s = refl
        shut false true = refl
        shut false false = ap (λ (x : Bool). need (if x then Idle else Closing t)) (same_stamp-self t.stamp)

    module _ (IsBegun IsDecided : StampParts → Type 0) where
      abbrev Sound : Heard → Book → Type 0
      Sound h b = BookSound script me run acts IsBegun IsDecided h b

      early-room : (c : ℕ) (h : Heard) (b : Book) (f : Bool) (t : Try) (d : Decision) → open_try b ≡ Some t → pos (is_stamp h.begun t.stamp) t ≤ u + (ac t.answers + z) → c ≤ rank-in h b → ReplyRoom c h b (decided_early f t d)
      early-room c h b f t decision.Committed e p k = when-room c h b f (ends t outcome.Committed) (settled-room c h b t outcome.Committed e refl p k)
      early-room c h b f t decision.Withdrawn e p k = tt
      early-room c h b f t (decision.Expired x m) e p k = settled-room c h b t (outcome.Expired x m) e refl p k

      commit-room : (c : ℕ) (h : Heard) (b : Book) (t : Try) (d : Decision) → open_try b ≡ Some t → pos (is_stamp h.begun t.stamp) t ≤ u + (ac t.answers + z) → c ≤ rank-in h b → ReplyRoom c h b (decided_commit t d)
      commit-room c h b t decision.Committed e p k = settled-room c h b t outcome.Committed e refl p k
      commit-room c h b t decision.Withdrawn e p k = tt
      commit-room c h b t (decision.Expired x m) e p k = settled-room c h b t (outcome.Expired x m) e refl p k

      open-end : (b : Book) (t : Try) → open_try b ≡ Some t → t.end ≡ None
      open-end b t e = (split (λ x. x) b.acts t e).3

      fresh-most : (h : Heard) (b : Book) (t : Try) → stage script run b h ≡ Opening t → open_try b ≡ Some t → pos (is_stamp h.begun t.stamp) t ≤ u + (ac t.answers + z)
      fresh-most h b t st e = let f = pos-fresh (is_stamp h.begun t.stamp) t (open-end b t e) (says h b (Opening t) st) in omega (arith, f)

      over-room : (c : ℕ) (h : Heard) (b : Book) (t : Try) (q : Request) (x : TimeParts) → Tells script me run acts IsBegun IsDecided b (Over_there x) → open_try b ≡ Some t → stop_of script t ≡ Asks q → (w : Bool) → same_time (time_of t) x ≡ w →
          ReplyRoom c h b (when w (Hears (record h { ended = Some (time_of t) })))
      over-room c h b t q x tells e asks true same = absurd (tells t q e asks same)
      over-room c h b t q x tells e asks false same = tt

      row-room : (c : ℕ) (h : Heard) (b : Book) (st : Stage) (n : News) → stage script run b h ≡ st → StageOk script me run acts b st → Sound h b → Tells script me run acts IsBegun IsDecided b n → c ≤ rank-in h b →
          ReplyRoom c h b (row script st h n)
      row-room c h b (Opening t) (Begun s) st ok sound tells k = when-room c h b (same_stamp t.stamp s) (Hears (record h { begun = Some t.stamp })) (begun-room c h b t sound.ended ok (says h b (Opening t) st) k)
      row-room c h b (Opening t) (Decided s d) st ok sound tells k =
          when-room c h b (same_stamp t.stamp s) (decided_early (is_finished (stop_of script t)) t d) (early-room c h b (is_finished (stop_of script t)) t d ok (fresh-most h b t st ok) k)
      row-room c h b (Asking t (ToRead o)) (Answered x (Got y)) st ok sound tells k = when-room c h b (same_time (time_of t) x) (Adds (effect.Got x.step y)) (gain-room c h b t (ToRead o) (Got y) sound.ended ok.0 ok.1 k)
      row-room c h b (Asking t (ToRead o)) (Refusal x e true) st ok sound tells k =
          when-room c h b (same_time (time_of t) x) (ends t (outcome.LaterRead o e)) (refused-room c h b t (ToRead o) (outcome.LaterRead o e) ok.0 ok.1 refl k)
      row-room c h b (Asking t (ToWrite o a)) (Answered x Stored) st ok sound tells k = when-room c h b (same_time (time_of t) x) (Adds (effect.Acked x.step)) (gain-room c h b t (ToWrite o a) Stored sound.ended ok.0 ok.1 k)
      row-room c h b (Asking t (ToWrite o a)) (Refusal x e true) st ok sound tells k =
          when-room c h b (same_time (time_of t) x) (ends t (outcome.LaterRead o e)) (refused-room c h b t (ToWrite o a) (outcome.LaterRead o e) ok.0 ok.1 refl k)
      row-room c h b (Asking t (ToWrite o a)) (Refusal x e false) st ok sound tells k =
          when-room c h b (same_time (time_of t) x) (ends t (outcome.LaterVersion o e)) (refused-room c h b t (ToWrite o a) (outcome.LaterVersion o e) ok.0 ok.1 refl k)
      row-room c h b (Asking t q) (Over_there x) st ok sound tells k = over-room c h b t q x tells ok.0 ok.1 (same_time (time_of t) x) refl
      row-room c h b (Finishing t) (Decided s d) st ok sound tells k =
          when-room c h b (same_stamp t.stamp s) (decided_commit t d) (commit-room c h b t d ok.0 (pos-stop (is_stamp h.begun t.stamp) t (Over ending.Finished) (open-end b t ok.0) ok.1) k)
      row-room c h b (Refused t) n st ok sound tells k = absurd (subst (StageSound script me run acts IsBegun IsDecided) st (stage-sound script me run acts IsBegun IsDecided h b sound))
      row-room c h b (Closing t) (Decided s d) st ok sound tells k = when-room c h b (same_stamp t.stamp s) (Hears (record h { closed = Some t.stamp })) (closed-room c h b t (says h b (Closing t) st) ok k)
      row-room c h b _ _ st ok sound tells k = tt

      -- ---- turns

      abbrev At : Desk → Book
      At d = state script me run acts d

      abbrev pub paid : Desk → ℕ
      paid d = rank-in d.heard (At d)

      abbrev DeskRoom : ℕ → Desk → Type 0
      DeskRoom c d = Room c d.heard (At d)

      settle-room : (c n : ℕ) (d : Desk) → Sound d.heard (At d) → DeskRoom c d → DeskRoom c (settle_up script me run acts n d)
      unfolding settle_up
      settle-room c zero d sound k = k
      settle-room c (suc n) d sound k = go (λ e i j. settle-room c n e i j) (owed script me run acts (At d) d.heard) refl
        where
          go : ((e : Desk) → Sound e.heard (At e) → DeskRoom c e → DeskRoom c (settle_up script me run acts n e)) → (o : Option Effect) → owed script me run acts (At d) d.heard ≡ o → DeskRoom c (note_if (settle_up script me run acts n) o d)
          go again None e = k
          go again (Some f) e =
              let good : Good script me run acts [] (At d) f = subst (OwedOk script me run acts [] (At d)) e (owed-ok script me run acts [] (At d) d.heard) in
              let is : At (note f d) ≡ enter f (At d) = state-note script me run acts IsBegun IsDecided [] d f good in
              let pays : Pays d.heard (At d) f = subst (OptPays d.heard (At d)) e (owed-pays d.heard (At d) sound.ended sound.early) in
              again (note f d)
              (subst (Sound d.heard) (sym is) (enter-sound script me run acts IsBegun IsDecided d.heard (At d) f (owed-allowed script me run acts IsBegun IsDecided d.heard (At d) f sound e) sound))
              (subst (Room c d.heard) (sym is) (pays c k))

      -- what a turn says
      abbrev one-load : Option Out → ℕ
      one-load None = 0
      one-load (Some o) = weight u v z o.message

      send-load : (d : Desk) (o : Option Out) → load (weight u v z) (send o d).outs ≡ load (weight u v z) d.outs + one-load o
      send-load d None = omega arith
      send-load d (Some o) = let k = load-append (weight u v z) d.outs (o ∷ []) in omega (arith, k)

      stands : (st : Stage) → one-load (standing st) ≤ need st
      stands (Asking t (ToRead o)) = omega arith
      stands st = omega arith

      send-paid : (d : Desk) (o : Option Out) → paid (send o d) ≡ paid d
      send-paid d None = refl
      send-paid d (Some o) = refl

      say-paid : (c : ℕ) (d : Desk) → d.outs ≡ [] → DeskRoom c d → c + load (weight u v z) (say script me run acts d).outs ≤ paid (say script me run acts d)
      say-paid c d none k =
          let y : load (weight u v z) d.outs ≡ 0 = ap (load (weight u v z)) none in
          omega (arith, k, send-load d (standing (stage script run (At d) d.heard)), y, send-paid d (standing (stage script run (At d) d.heard)), stands (stage script run (At d) d.heard))

      settled-paid : (c : ℕ) (d : Desk) → d.outs ≡ [] → Sound d.heard (At d) → DeskRoom c d → c + load (weight u v z) (say script me run acts (settle_up script me run acts (fuel acts) d)).outs ≤ paid (say script me run acts (settle_up script me run acts (fuel acts) d))
      settled-paid c d none sound k = say-paid c (settle_up script me run acts (fuel acts) d) (settle-outs script me run acts IsBegun IsDecided (fuel acts) d ∙ none) (settle-room c (fuel acts) d sound k)

      reply-paid : (c : ℕ) (ever : List Post) (d : Desk) (r : Reply) → d.outs ≡ [] → ReplyOk script me run acts ever (At d) r → ReplySound script me run acts IsBegun IsDecided d.heard (At d) r → Sound d.heard (At d) → c ≤ paid d →
          ReplyRoom c d.heard (At d) r → c + load (weight u v z) (reply script me run acts d r).outs ≤ paid (reply script me run acts d r)
      reply-paid c ever d Ignored none ok s sound k room = let y : load (weight u v z) d.outs ≡ 0 = ap (load (weight u v z)) none in omega (arith, k, y)
      reply-paid c ever d (Hears h) none ok s sound k room = settled-paid c (hears h d) none s room
      reply-paid c ever d (Adds f) none ok s sound k room =
          let is : At (note f d) ≡ enter f (At d) = state-note script me run acts IsBegun IsDecided ever d f ok in
          settled-paid c (note f d) none (subst (Sound d.heard) (sym is) (enter-sound script me run acts IsBegun IsDecided d.heard (At d) f s sound)) (subst (Room c d.heard) (sym is) room)

      -- a broker takes a message
      pub take-paid : (c : ℕ) (ever : List Post) (d : Desk) (from : NodeId) (m : Message) → d.outs ≡ [] → HasCome me ever m → Tells script me run acts IsBegun IsDecided (At d) (news m) → Sound d.heard (At d) → c ≤ paid d →
          c + load (weight u v z) (desk_turn script me run acts d (desks.Take from m)).outs ≤ paid (desk_turn script me run acts d (desks.Take from m))
      take-paid c ever d from m none came tells sound k =
          reply-paid c ever d (row script (stage script run (At d) d.heard) d.heard (news m)) none
          (row-ok script me run acts ever (At d) (stage script run (At d) d.heard) d.heard (news m) (stage-ok script me run acts (At d) d.heard) (news-came script me run acts ever m came))
          (reply-sounds script me run acts IsBegun IsDecided d (news m) sound tells) sound k
          (row-room c d.heard (At d) (stage script run (At d) d.heard) (news m) refl (stage-ok script me run acts (At d) d.heard) sound tells k)

      -- a broker without acts goes
      pub go-paid : (d : Desk) → d.outs ≡ [] → Sound d.heard (At d) → (At d).acts ≡ [] → load (weight u v z) (desk_turn script me run acts d desks.Go).outs ≤ paid (desk_turn script me run acts d desks.Go)
      go-paid d none sound no-acts =
          let g : Heard = record d.heard { gone = true } in
          let idle : need (stage_of script (record d.heard { gone = true }) (open_try (At d)) (last_try (At d))) ≡ 0 =
          subst (λ as'. need (stage_of script (record d.heard { gone = true }) (open_of as') (front (tries_of as'))) ≡ 0) (sym no-acts) refl in
          let k = settled-paid 0 (hears (record d.heard { gone = true }) d) none
          (record { past = sound.past; early = sound.early; trail = sound.trail; settled = sound.settled; started = sound.started; ended = sound.ended; begun = sound.begun; closed = sound.closed })
          (omega (arith, idle, need-if ((At d).run == run) (stage_of script (record d.heard { gone = true }) (open_try (At d)) (last_try (At d))))) in
          omega (arith, k)
