-- What a whole turn of a broker keeps, where no Ended comes for its current request; and what its messages then say.
use Rattle.broker_laws.proofs.Names.{Has, every-append, every-has, StampParts, same_stamp, same_time, same_stamp-is, Decision, NodeId, Effect, Outcome, Message, Out, Post, Got, Stored, Request, ToRead, ToWrite, Asks, Tree, Heard, Reply, Adds, Hears, Ignored, Task, Act, Book, Try, book, enter, last_try, open_try, time_of, tries_of, act_effect, another, is_none, next_clock, shown_to, stop_of, Stage, Idle, Refused, Opening, Asking, Finishing, Stopping, Closing, is_closed, is_finished, is_settled, stage, stage_of, standing, after_act, after_tries, by_clock, by_stage, due, owed, start, try_or_spent, Answered, Begun, Decided, News, Over_there, Refusal, decided_commit, decided_early, ends, news, row, when, is_stamp, Desk, Go, Hear, Take, desk_turn, fuel, hears, note, note_if, reply, say, send, settle_up, state, HasCome, older, newest, repository, ◌≡◌, ℕ, zero, suc, ◌==◌, nat_lt, Bool, true, false, ◌||◌, length, List, [], ◌∷◌, ◌++◌, refl, sym, ◌∙◌, ap, subst, Option, Some, None, if◌then◌else◌, inl, inr, arith, common_steps, false≢true, slice_get, has-right}
use Rattle.pseudo_time.specs.declared.decisions.Decision.TheVariants as decision
use Rattle.effect_form.specs.declared.effects.Effect.TheVariants as effect
use Rattle.effect_form.specs.declared.outcomes.Outcome.TheVariants as outcome
use Rattle.message_form.specs.declared.messages.Message.TheVariants as message
use Rattle.broker_laws.proofs.Desks.{Good, OwedOk, ReplyOk, StageOk, news-came, note-state, owed-ok, row-ok, stage-ok}
use Rattle.broker_laws.specs.Waits as waits
use Rattle.broker_laws.proofs.BookSteps.{Allowed, AllDecided, BookSound, EndAllowed, HasSettled, OfNewest, StageSound, Trail, enter-sound, open-among, stage-sound, stamp-heard}

some-same : {A : Type 0} (x y : A) → Some x ≡ Some y → x ≡ y
some-same x y e = cc e

module _ (script : List ℕ → Tree) (me run : ℕ) (acts : List Task) (IsBegun IsDecided : StampParts → Type 0) where
  abbrev pub Sound : Heard → Book → Type 0
  Sound h b = BookSound script me run acts IsBegun IsDecided h b

  abbrev pub Fits : Book → Effect → Type 0
  Fits b f = Allowed script me run acts IsBegun IsDecided b f

  abbrev All : List Try → Type 0
  All ts = AllDecided script me run acts IsBegun IsDecided ts

  abbrev Trailed : List Act → Type 0
  Trailed as' = Trail script me run acts IsBegun IsDecided as'

  abbrev Of : Stage → Type 0
  Of st = StageSound script me run acts IsBegun IsDecided st

  -- ---- what is owed

  pub closed-decided : (h : Heard) (b : Book) (t : Try) → Sound h b → Has t (tries_of b.acts) → is_closed h t ≡ true → IsDecided t.stamp
  closed-decided h b t k i c = by-end (is_none t.end) c
    where
      by-settled : (s : Bool) → is_settled t.end ≡ s → (s || is_stamp h.closed t.stamp) ≡ true → IsDecided t.stamp
      by-settled true e u = every-has (HasSettled script me run acts IsBegun IsDecided) (tries_of b.acts) t k.settled i e
      by-settled false e u = k.closed t.stamp (stamp-heard script me run acts IsBegun IsDecided h.closed t.stamp u)

      by-end : (n : Bool) → (if n then false else (is_settled t.end || is_stamp h.closed t.stamp)) ≡ true → IsDecided t.stamp
      by-end true u = absurd (false≢true u)
      by-end false u = by-settled (is_settled t.end) refl u

  start-allowed : (b : Book) (o : Option Task) (f : Effect) → start o ≡ Some f → nat_lt b.run run ≡ false → All (tries_of b.acts) → Fits b f
  start-allowed b None f e n all = absurd (cc e)
  start-allowed b (Some a) f e n all = subst (Fits b) (some-same (act_effect a) f e) (n, all)

  clock-allowed : (b : Book) (a : Act) (done : List Act) (o : Option ℕ) (f : Effect) → b.acts ≡ a ∷ done → by_clock me b a o ≡ f → nat_lt b.run run ≡ false → All a.tries → a.spent ≡ None → Fits b f
  clock-allowed b a done (Some c) f l e n all spent = subst (Fits b) e (n, subst (λ as'. OfNewest script me run acts IsBegun IsDecided as' (λ x. All x.tries × (x.spent ≡ None))) (sym l) (all, spent))
  clock-allowed b a done None f l e n all spent = subst (Fits b) e (n, subst (λ as'. OfNewest script me run acts IsBegun IsDecided as' (λ x. All x.tries)) (sym l) all)

  tries-allowed : (h : Heard) (b : Book) (a : Act) (done : List Act) (ts : List Try) (f : Effect) → b.acts ≡ a ∷ done → a.tries ≡ ts → a.spent ≡ None → Sound h b → nat_lt b.run run ≡ false →
      after_tries me acts h b a ts (length (a ∷ done)) ≡ Some f → Fits b f
  tries-allowed h b a done [] f l q spent k n e = clock-allowed b a done (next_clock b.clock (shown_to b a)) f l (some-same (try_or_spent me b a) f e) n (subst All (sym q) tt) spent
  tries-allowed h b a done (t ∷ ts) f l q spent k n e = by-closed (is_closed h t) refl e
    where
      trail : Trailed (a ∷ done)
      trail = subst Trailed l k.trail

      among : Has t (tries_of b.acts)
      among = subst (λ as'. Has t (tries_of as')) (sym l) (subst (λ xs. Has t (xs ++ tries_of done)) (sym q) (inl refl))

      by-another : (c : Bool) → All a.tries → (if c then Some (try_or_spent me b a) else start (slice_get acts (length (a ∷ done)))) ≡ Some f → Fits b f
      by-another true all e = clock-allowed b a done (next_clock b.clock (shown_to b a)) f l (some-same (try_or_spent me b a) f e) n all spent
      by-another false all e = start-allowed b (slice_get acts (length (a ∷ done))) f e n
          (subst (λ as'. All (tries_of as')) (sym l) (every-append (λ (x : Try). IsDecided x.stamp) a.tries (tries_of done) all trail.0))

      by-closed : (c : Bool) → is_closed h t ≡ c → (if c then (if another a.task.tries (t ∷ ts) then Some (try_or_spent me b a) else start (slice_get acts (length (a ∷ done)))) else None) ≡ Some f → Fits b f
      by-closed true c e = by-another (another a.task.tries (t ∷ ts)) (subst All (sym q) (closed-decided h b t k among c, subst (λ xs. All (older xs)) q trail.1)) e
      by-closed false c e = absurd (cc e)

  act-allowed : (h : Heard) (b : Book) (a : Act) (done : List Act) (o : Option ℕ) (f : Effect) → b.acts ≡ a ∷ done → a.spent ≡ o → Sound h b → nat_lt b.run run ≡ false →
      after_act me acts h b a o (length (a ∷ done)) ≡ Some f → Fits b f
  act-allowed h b a done None f l s k n e = tries-allowed h b a done a.tries f l refl s k n e
  act-allowed h b a done (Some c) f l s k n e =
      let trail : Trailed (a ∷ done) = subst Trailed l k.trail in
      start-allowed b (slice_get acts (length (a ∷ done))) f e n
      (subst (λ as'. All (tries_of as')) (sym l) (every-append (λ (x : Try). IsDecided x.stamp) a.tries (tries_of done) (trail.2 c s) trail.0))

  due-allowed : (h : Heard) (b : Book) (as' : List Act) (f : Effect) → b.acts ≡ as' → Sound h b → nat_lt b.run run ≡ false → due me acts h b as' ≡ Some f → Fits b f
  due-allowed h b [] f l k n e = start-allowed b (slice_get acts 0) f e n (subst (λ as'. All (tries_of as')) (sym l) tt)
  due-allowed h b (a ∷ done) f l k n e = act-allowed h b a done a.spent f l refl k n e

  -- the End of the open attempt
  end-allowed : (b : Book) (t : Try) (o : Outcome) → open_try b ≡ Some t → IsBegun t.stamp → (is_settled (Some o) ≡ true → IsDecided t.stamp) → EndAllowed script me run acts IsBegun IsDecided o b
  end-allowed b t o e begun settled u at =
      let is : t ≡ u = some-same t u (sym (open-among script me run acts IsBegun IsDecided b.acts t e).2 ∙ at) in
      (subst (λ (x : Try). IsBegun x.stamp) is begun, λ s. subst (λ (x : Try). IsDecided x.stamp) is (settled s))

  stopping-allowed : (b : Book) (t : Try) (o : Outcome) (f : Effect) → open_try b ≡ Some t → Of (Stopping t o) → nat_lt b.run run ≡ false → effect.End t.task.index o ≡ f → Fits b f
  stopping-allowed b t (outcome.Withdrawn l) f e k n q = subst (Fits b) q (n, end-allowed b t (outcome.Withdrawn l) e k (λ s. absurd (false≢true s)))
  stopping-allowed b t (outcome.Failed l kind) f e k n q = subst (Fits b) q (n, end-allowed b t (outcome.Failed l kind) e k (λ s. absurd (false≢true s)))
  stopping-allowed b t o f e k n q = absurd k

  stage-allowed : (h : Heard) (b : Book) (st : Stage) (f : Effect) → StageOk script me run acts b st → Of st → Sound h b → nat_lt b.run run ≡ false → by_stage me acts h b st ≡ Some f → Fits b f
  stage-allowed h b (Stopping t o) f ok of k n e = stopping-allowed b t o f ok.0 of n (some-same (effect.End t.task.index o) f e)
  stage-allowed h b x f ok of k n e = due-allowed h b b.acts f refl k n e

  pub owed-allowed : (h : Heard) (b : Book) (f : Effect) → Sound h b → owed script me run acts b h ≡ Some f → Fits b f
  owed-allowed h b f k e = go (nat_lt b.run run) refl e
    where
      go : (c : Bool) → nat_lt b.run run ≡ c → (if c then Some (effect.Run run) else by_stage me acts h b (stage script run b h)) ≡ Some f → Fits b f
      go true n e = subst (Fits b) (some-same (effect.Run run) f e) (refl, k.early n)
      go false n e = stage-allowed h b (stage script run b h) f (stage-ok script me run acts b h) (stage-sound script me run acts IsBegun IsDecided h b k) k n e

  -- an effect that counts is entered
  pub state-note : (ever : List Post) (d : Desk) (f : Effect) → Good script me run acts ever (state script me run acts d) f → state script me run acts (note f d) ≡ enter f (state script me run acts d)
  unfolding book
  state-note ever d f g = ap book (note-state script me run acts ever d f g)

  pub settle-sound : (n : ℕ) (d : Desk) → Sound d.heard (state script me run acts d) → Sound (settle_up script me run acts n d).heard (state script me run acts (settle_up script me run acts n d))
  unfolding settle_up
  settle-sound zero d k = k
  settle-sound (suc n) d k = go (λ e j. settle-sound n e j) (owed script me run acts (state script me run acts d) d.heard) refl
    where
      go : ((e : Desk) → Sound e.heard (state script me run acts e) → Sound (settle_up script me run acts n e).heard (state script me run acts (settle_up script me run acts n e))) →
          (o : Option Effect) → owed script me run acts (state script me run acts d) d.heard ≡ o →
          Sound (note_if (settle_up script me run acts n) o d).heard (state script me run acts (note_if (settle_up script me run acts n) o d))
      go again None e = k
      go again (Some f) e =
          let good : Good script me run acts [] (state script me run acts d) f = subst (OwedOk script me run acts [] (state script me run acts d)) e (owed-ok script me run acts [] (state script me run acts d) d.heard) in
          again (note f d) (subst (Sound d.heard) (sym (state-note [] d f good)) (enter-sound script me run acts IsBegun IsDecided d.heard (state script me run acts d) f (owed-allowed d.heard (state script me run acts d) f k e) k))

  -- ---- what is heard

  -- what a message has to say where it tells something
  abbrev pub Tells : Book → News → Type 0
  Tells b (Begun s) = IsBegun s
  Tells b (Decided s d) = IsDecided s × IsBegun s
  Tells b (Over_there x) = (t : Try) (q : Request) → open_try b ≡ Some t → stop_of script t ≡ Asks q → same_time (time_of t) x ≡ true → ⊥
  Tells b n = Unit {0}

  abbrev pub ReplySound : Heard → Book → Reply → Type 0
  ReplySound h b Ignored = Unit {0}
  ReplySound h b (Hears g) = Sound g b
  ReplySound h b (Adds f) = Fits b f

  when-sound : (h : Heard) (b : Book) (c : Bool) (r : Reply) → (c ≡ true → ReplySound h b r) → ReplySound h b (when c r)
  when-sound h b true r k = k refl
  when-sound h b false r k = tt

  commit-sound : (h : Heard) (b : Book) (t : Try) (d : Decision) → nat_lt b.run run ≡ false → open_try b ≡ Some t → IsBegun t.stamp → IsDecided t.stamp → ReplySound h b (decided_commit t d)
  commit-sound h b t decision.Committed n e begun settled = (n, end-allowed b t outcome.Committed e begun (λ s. settled))
  commit-sound h b t decision.Withdrawn n e begun settled = tt
  commit-sound h b t (decision.Expired x m) n e begun settled = (n, end-allowed b t (outcome.Expired x m) e begun (λ s. settled))

  early-sound : (h : Heard) (b : Book) (fin : Bool) (t : Try) (d : Decision) → nat_lt b.run run ≡ false → open_try b ≡ Some t → IsBegun t.stamp → IsDecided t.stamp → ReplySound h b (decided_early fin t d)
  early-sound h b fin t decision.Committed n e begun settled = when-sound h b fin (ends t outcome.Committed) (λ y. (n, end-allowed b t outcome.Committed e begun (λ s. settled)))
  early-sound h b fin t decision.Withdrawn n e begun settled = tt
  early-sound h b fin t (decision.Expired x m) n e begun settled = (n, end-allowed b t (outcome.Expired x m) e begun (λ s. settled))

  begun-sound : (h : Heard) (b : Book) (s : StampParts) → IsBegun s → Sound h b → Sound (record h { begun = Some s }) b
  begun-sound h b s i k = record { past = k.past; early = k.early; trail = k.trail; settled = k.settled; started = k.started; ended = k.ended; begun = λ x e. subst IsBegun (some-same s x e) i; closed = k.closed }

  closed-sound : (h : Heard) (b : Book) (s : StampParts) → IsDecided s → Sound h b → Sound (record h { closed = Some s }) b
  closed-sound h b s i k = record { past = k.past; early = k.early; trail = k.trail; settled = k.settled; started = k.started; ended = k.ended; begun = k.begun; closed = λ x e. subst IsDecided (some-same s x e) i }

  newest-begun : (b : Book) (t : Try) → open_try b ≡ Some t → IsBegun t.stamp → (u : Try) → newest b.acts ≡ Some u → IsBegun u.stamp
  newest-begun b t e begun u at = subst (λ (x : Try). IsBegun x.stamp) (some-same t u (sym (open-among script me run acts IsBegun IsDecided b.acts t e).2 ∙ at)) begun

  pub row-sound : (h : Heard) (b : Book) (st : Stage) (n : News) → nat_lt b.run run ≡ false → StageOk script me run acts b st → Of st → Sound h b → Tells b n → ReplySound h b (row script st h n)
  row-sound h b (Opening t) (Begun s) n ok of k tells = when-sound h b (same_stamp t.stamp s) _ (λ e. begun-sound h b t.stamp (subst IsBegun (sym (same_stamp-is t.stamp s e)) tells) k)
  row-sound h b (Opening t) (Decided s d) n ok of k tells =
      when-sound h b (same_stamp t.stamp s) _ (λ e. early-sound h b (is_finished (stop_of script t)) t d n ok (subst IsBegun (sym (same_stamp-is t.stamp s e)) tells.1) (subst IsDecided (sym (same_stamp-is t.stamp s e)) tells.0))
  row-sound h b (Asking t (ToRead o)) (Answered x (Got v)) n ok of k tells = when-sound h b (same_time (time_of t) x) _ (λ e. (n, newest-begun b t ok.0 of))
  row-sound h b (Asking t (ToWrite o v)) (Answered x Stored) n ok of k tells = when-sound h b (same_time (time_of t) x) _ (λ e. (n, newest-begun b t ok.0 of))
  row-sound h b (Asking t (ToRead o)) (Refusal x e true) n ok of k tells = when-sound h b (same_time (time_of t) x) _ (λ q. (n, end-allowed b t (outcome.LaterRead o e) ok.0 of (λ s. absurd (false≢true s))))
  row-sound h b (Asking t (ToWrite o v)) (Refusal x e true) n ok of k tells = when-sound h b (same_time (time_of t) x) _ (λ q. (n, end-allowed b t (outcome.LaterRead o e) ok.0 of (λ s. absurd (false≢true s))))
  row-sound h b (Asking t (ToWrite o v)) (Refusal x e false) n ok of k tells = when-sound h b (same_time (time_of t) x) _ (λ q. (n, end-allowed b t (outcome.LaterVersion o e) ok.0 of (λ s. absurd (false≢true s))))
  row-sound h b (Asking t q) (Over_there x) n ok of k tells = when-sound h b (same_time (time_of t) x) _ (λ e. absurd (tells t q ok.0 ok.1 e))
  row-sound h b (Finishing t) (Decided s d) n ok of k tells = when-sound h b (same_stamp t.stamp s) _ (λ e. commit-sound h b t d n ok.0 of (subst IsDecided (sym (same_stamp-is t.stamp s e)) tells.0))
  row-sound h b (Refused t) m n ok of k tells = absurd of
  row-sound h b (Closing t) (Decided s d) n ok of k tells = when-sound h b (same_stamp t.stamp s) _ (λ e. closed-sound h b t.stamp (subst IsDecided (sym (same_stamp-is t.stamp s e)) tells.0) k)
  row-sound h b _ _ n ok of k tells = tt

  -- ---- turns

  abbrev At : Desk → Book
  At d = state script me run acts d

  abbrev pub DeskSound : Desk → Type 0
  DeskSound d = Sound d.heard (At d)

  abbrev pub standing_of : Desk → Option Out
  standing_of d = standing (stage script run (At d) d.heard)

  say-sound : (d : Desk) → DeskSound d → DeskSound (say script me run acts d)
  say-sound d k = elim (standing_of d) as (λ o. DeskSound (send o d)) [ None ↦ k | Some o ↦ k ]

  same-run : (m n : ℕ) → (m == n) ≡ true → nat_lt m n ≡ false
  same-run m n e = grind (arith, common_steps)

  reply-sound : (ever : List Post) (d : Desk) (r : Reply) → ReplyOk script me run acts ever (At d) r → ReplySound d.heard (At d) r → DeskSound d → DeskSound (reply script me run acts d r)
  reply-sound ever d Ignored ok s k = k
  reply-sound ever d (Hears h) ok s k = say-sound (settle_up script me run acts (fuel acts) (hears h d)) (settle-sound (fuel acts) (hears h d) s)
  reply-sound ever d (Adds f) ok s k =
      say-sound (settle_up script me run acts (fuel acts) (note f d)) (settle-sound (fuel acts) (note f d)
      (subst (Sound d.heard) (sym (state-note ever d f ok)) (enter-sound script me run acts IsBegun IsDecided d.heard (At d) f s k)))

  -- what is heard is sound
  pub reply-sounds : (d : Desk) (n : News) → DeskSound d → Tells (At d) n → ReplySound d.heard (At d) (row script (stage script run (At d) d.heard) d.heard n)
  reply-sounds d n k tells = go ((At d).run == run) refl
    where
      go : (c : Bool) → ((At d).run == run) ≡ c → ReplySound d.heard (At d) (row script (if c then stage_of script d.heard (open_try (At d)) (last_try (At d)) else Idle) d.heard n)
      go true e = row-sound d.heard (At d) (stage_of script d.heard (open_try (At d)) (last_try (At d))) n (same-run (At d).run run e)
          (subst (λ c. StageOk script me run acts (At d) (if c then stage_of script d.heard (open_try (At d)) (last_try (At d)) else Idle)) e (stage-ok script me run acts (At d) d.heard))
          (subst (λ c. Of (if c then stage_of script d.heard (open_try (At d)) (last_try (At d)) else Idle)) e (stage-sound script me run acts IsBegun IsDecided d.heard (At d) k)) k tells
      go false e = tt

  -- a message is taken
  pub take-sound : (ever : List Post) (d : Desk) (from : NodeId) (m : Message) → HasCome me ever m → Tells (At d) (news m) → DeskSound d → DeskSound (desk_turn script me run acts d (Take from m))
  take-sound ever d from m came tells k =
      reply-sound ever d (row script (stage script run (At d) d.heard) d.heard (news m))
      (row-ok script me run acts ever (At d) (stage script run (At d) d.heard) d.heard (news m) (stage-ok script me run acts (At d) d.heard) (news-came script me run acts ever m came)) (reply-sounds d (news m) k tells) k

  -- the broker goes
  pub go-sound : (d : Desk) → DeskSound d → DeskSound (desk_turn script me run acts d Go)
  go-sound d k =
      say-sound (settle_up script me run acts (fuel acts) (hears (record d.heard { gone = true }) d)) (settle-sound (fuel acts) (hears (record d.heard { gone = true }) d)
      (record { past = k.past; early = k.early; trail = k.trail; settled = k.settled; started = k.started; ended = k.ended; begun = k.begun; closed = k.closed }))

  -- a moment is heard
  pub hear-sound : (d : Desk) (m : ℕ) → DeskSound d → DeskSound (desk_turn script me run acts d (Hear m))
  hear-sound d m k = say-sound d k

  -- ---- messages

  -- what a message of the broker says of its home and of the attempt
  abbrev pub OutSound : Book → Message → Type 0
  OutSound b m = waits.OutSound run IsBegun IsDecided b m

  message-of : (x o : Out) → Some x ≡ Some o → x.message ≡ o.message
  message-of x o e = ap (λ (z : Out). z.message) (some-same x o e)

  stand-sound : (b : Book) (st : Stage) (o : Out) → StageOk script me run acts b st → Of st → standing st ≡ Some o → OutSound b o.message
  stand-sound b (Refused t) o ok of e = absurd of
  stand-sound b (Opening t) o ok of e = subst (OutSound b) (message-of (record { to = repository t.stamp.home; message = message.Begin t.stamp t.task.timeout }) o e) tt
  stand-sound b (Asking t (ToRead a)) o ok of e = subst (OutSound b) (message-of (record { to = repository a.repository; message = message.Read (time_of t) a }) o e) of
  stand-sound b (Asking t (ToWrite a v)) o ok of e = subst (OutSound b) (message-of (record { to = repository a.repository; message = message.Write (time_of t) a v }) o e) of
  stand-sound b (Finishing t) o ok of e = subst (OutSound b) (message-of (record { to = repository t.stamp.home; message = message.Commit t.stamp }) o e) of
  stand-sound b (Closing t) o ok of e = subst (OutSound b) (message-of (record { to = repository t.stamp.home; message = message.Withdraw t.stamp }) o e) (of.0, (t, ok, refl, of.1))
  stand-sound b _ o ok of e = absurd (cc e)

  pub standing-sound : (d : Desk) (o : Out) → DeskSound d → standing_of d ≡ Some o → OutSound (At d) o.message
  standing-sound d o k e = stand-sound (At d) (stage script run (At d) d.heard) o (stage-ok script me run acts (At d) d.heard) (stage-sound script me run acts IsBegun IsDecided d.heard (At d) k) e

  -- ---- what stands after a message that was heard is owed

  said : (d : Desk) (o : Out) → standing_of (say script me run acts d) ≡ Some o → Has o (say script me run acts d).outs
  said d o e = go (standing_of d) refl e
    where
      go : (s : Option Out) → standing_of d ≡ s → standing_of (send s d) ≡ Some o → Has o (send s d).outs
      go None q e = let no : None ≡ Some o = sym q ∙ e in absurd (cc no)
      go (Some x) q e = let is : x ≡ o = some-same x o (sym q ∙ e) in
          subst (λ z. Has o (d.outs ++ z ∷ [])) (sym is) (has-right d.outs (o ∷ []) o (inl refl))

  pub heard-says : (d : Desk) (r : Reply) (o : Out) → (r ≡ Ignored → ⊥) → standing_of (reply script me run acts d r) ≡ Some o → Has o (reply script me run acts d r).outs
  heard-says d Ignored o n e = absurd (n refl)
  heard-says d (Hears h) o n e = said (settle_up script me run acts (fuel acts) (hears h d)) o e
  heard-says d (Adds f) o n e = said (settle_up script me run acts (fuel acts) (note f d)) o e

  pub go-says : (d : Desk) (o : Out) → standing_of (desk_turn script me run acts d Go) ≡ Some o → Has o (desk_turn script me run acts d Go).outs
  go-says d o e = said (settle_up script me run acts (fuel acts) (hears (record d.heard { gone = true }) d)) o e

  -- ---- a turn owes what then stands, and nothing else

  pub settle-outs : (n : ℕ) (d : Desk) → (settle_up script me run acts n d).outs ≡ d.outs
  unfolding settle_up
  settle-outs zero d = refl
  settle-outs (suc n) d = go (λ e. settle-outs n e) (owed script me run acts (At d) d.heard)
    where
      go : ((e : Desk) → (settle_up script me run acts n e).outs ≡ e.outs) → (o : Option Effect) → (note_if (settle_up script me run acts n) o d).outs ≡ d.outs
      go again None = refl
      go again (Some f) = again (note f d)

  say-stands : (d : Desk) (o : Out) → d.outs ≡ [] → Has o (say script me run acts d).outs → standing_of (say script me run acts d) ≡ Some o
  say-stands d o e h = go (standing_of d) refl h
    where
      one : (os : List Out) (x : Out) → os ≡ [] → Has o (os ++ x ∷ []) → x ≡ o
      one [] x q (inl i) = i
      one [] x q (inr i) = absurd i
      one (y ∷ os) x q i = absurd (cc q)

      go : (s : Option Out) → standing_of d ≡ s → Has o (send s d).outs → standing_of (send s d) ≡ Some o
      go None q h = absurd ((elim d.outs as (λ os. os ≡ [] → Has o os → ⊥) [ [] ↦ λ q h. h | x ∷ os ↦ λ q h. absurd (cc q) ]) e h)
      go (Some x) q h = q ∙ ap (λ z. Some z) (one d.outs x e h)

  reply-stands : (d : Desk) (r : Reply) (o : Out) → d.outs ≡ [] → Has o (reply script me run acts d r).outs → standing_of (reply script me run acts d r) ≡ Some o
  reply-stands d Ignored o e h = absurd ((elim d.outs as (λ os. os ≡ [] → Has o os → ⊥) [ [] ↦ λ q h. h | x ∷ os ↦ λ q h. absurd (cc q) ]) e h)
  reply-stands d (Hears g) o e h = say-stands (settle_up script me run acts (fuel acts) (hears g d)) o (settle-outs (fuel acts) (hears g d) ∙ e) h
  reply-stands d (Adds f) o e h = say-stands (settle_up script me run acts (fuel acts) (note f d)) o (settle-outs (fuel acts) (note f d) ∙ e) h

  pub take-stands : (d : Desk) (from : NodeId) (m : Message) (o : Out) → d.outs ≡ [] → Has o (desk_turn script me run acts d (Take from m)).outs → standing_of (desk_turn script me run acts d (Take from m)) ≡ Some o
  take-stands d from m o e h = reply-stands d (row script (stage script run (At d) d.heard) d.heard (news m)) o e h

  pub go-stands : (d : Desk) (o : Out) → d.outs ≡ [] → Has o (desk_turn script me run acts d Go).outs → standing_of (desk_turn script me run acts d Go) ≡ Some o
  go-stands d o e h = say-stands (settle_up script me run acts (fuel acts) (hears (record d.heard { gone = true }) d)) o (settle-outs (fuel acts) (hears (record d.heard { gone = true }) d) ∙ e) h

  -- what stands is for a repository
  pub stands-to : (st : Stage) (o : Out) → standing st ≡ Some o → (r : ℕ) × (o.to ≡ repository r)
  stands-to (Refused t) o e = (t.stamp.home, ap (λ (z : Out). z.to) (some-same o _ (sym e)))
  stands-to (Opening t) o e = (t.stamp.home, ap (λ (z : Out). z.to) (some-same o _ (sym e)))
  stands-to (Asking t (ToRead a)) o e = (a.repository, ap (λ (z : Out). z.to) (some-same o _ (sym e)))
  stands-to (Asking t (ToWrite a v)) o e = (a.repository, ap (λ (z : Out). z.to) (some-same o _ (sym e)))
  stands-to (Finishing t) o e = (t.stamp.home, ap (λ (z : Out). z.to) (some-same o _ (sym e)))
  stands-to (Closing t) o e = (t.stamp.home, ap (λ (z : Out). z.to) (some-same o _ (sym e)))
  stands-to _ o e = absurd (cc e)
