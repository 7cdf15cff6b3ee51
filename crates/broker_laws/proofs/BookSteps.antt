-- What each step of a broker's turn keeps, where no Ended comes: an attempt has an answer or an End only after its Begin stands at its home, and all attempts but the last are decided there.
use Rattle.broker_laws.proofs.Names.{Every, Has, every-has, StampParts, TimeParts, same_stamp-is, Effect, Outcome, Answer, Got, Stored, Stop, Over, Tree, Heard, Task, task_with, Act, Book, Try, close, enter, finish, front, gain, last_try, new_try, on_act, on_front, on_try, open_of, open_front, open_try, if_open, tries_of, is_none, stop_of, Stage, Idle, Refused, Opening, Asking, Finishing, Stopping, Closing, by_stop, is_asking, is_closed, is_settled, no_answer, of_open, stage, stage_of, is_stamp, is_time, older, newest, ◌≡◌, ℕ, ◌+◌, ◌==◌, max, nat_lt, Bool, true, false, ◌&&◌, ◌||◌, length, List, [], ◌∷◌, ◌++◌, refl, sym, ◌∙◌, ap, subst, Option, Some, None, if◌then◌else◌, inl, arith, common_steps, false≢true, true≢false}
use Rattle.value_form.specs.declared.endings.Ending.TheVariants as ending
use Rattle.effect_form.specs.declared.effects.Effect.TheVariants as effect
use Rattle.effect_form.specs.declared.outcomes.Outcome.TheVariants as outcome
use Rattle.broker_laws.specs.Waits as waits

not-below : (n : ℕ) → nat_lt n n ≡ false
not-below n = grind (arith, common_steps)

module _ (script : List ℕ → Tree) (me run : ℕ) (acts : List Task) (Begun Decided : StampParts → Type 0) where
  abbrev pub AllDecided : List Try → Type 0
  AllDecided ts = waits.AllDecided run Begun Decided ts

  abbrev pub Trail : List Act → Type 0
  Trail as' = waits.Trail run Begun Decided as'

  abbrev pub HasSettled : Try → Type 0
  HasSettled t = waits.HasSettled run Begun Decided t

  abbrev pub HasStarted : Try → Type 0
  HasStarted t = waits.HasStarted run Begun Decided t

  abbrev pub BookSound : Heard → Book → Type 0
  BookSound h b = waits.BookSound run Begun Decided h b

  -- ---- changes of the newest try

  on-try-trail : (g : Try → Try) → ((t : Try) → (g t).stamp ≡ t.stamp) → (as' : List Act) → Trail as' → Trail (on_try g as')
  on-try-trail g same [] k = tt
  on-try-trail g same (a ∷ done) k = (k.0, (elim a.tries as (λ ts. AllDecided (older ts) → AllDecided (older (on_front g ts))) [ [] ↦ λ k. k | t ∷ ts ↦ λ k. k ]) k.1, λ c e. all a.tries (k.2 c e))
    where
      all : (ts : List Try) → AllDecided ts → AllDecided (on_front g ts)
      all [] k = k
      all (t ∷ ts) k = (subst Decided (sym (same t)) k.0, k.1)

  on-try-every : (P : Try → Type 0) (g : Try → Try) (as' : List Act) → ((t : Try) → newest as' ≡ Some t → P t → P (g t)) → Every P (tries_of as') → Every P (tries_of (on_try g as'))
  on-try-every P g [] one k = k
  on-try-every P g (a ∷ done) one k = go a.tries one k
    where
      go : (ts : List Try) → ((t : Try) → front ts ≡ Some t → P t → P (g t)) → Every P (ts ++ tries_of done) → Every P (on_front g ts ++ tries_of done)
      go [] one k = k
      go (t ∷ ts) one k = (one t refl k.0, k.1)

  -- what an effect asks for
  abbrev pub EndAllowed : Outcome → Book → Type 0
  EndAllowed o b = (t : Try) → newest b.acts ≡ Some t → Begun t.stamp × (is_settled (Some o) ≡ true → Decided t.stamp)

  abbrev pub OfNewest : List Act → (Act → Type 0) → Type 0
  OfNewest [] P = Unit {0}
  OfNewest (a ∷ done) P = P a

  abbrev pub OutcomeAllowed : Outcome → Book → Type 0
  OutcomeAllowed outcome.Committed b = EndAllowed outcome.Committed b
  OutcomeAllowed (outcome.Spent c) b = OfNewest b.acts (λ a. AllDecided a.tries)
  OutcomeAllowed f b = EndAllowed f b

  abbrev pub Allowed : Book → Effect → Type 0
  Allowed b (effect.Run n) = (n ≡ run) × (b.acts ≡ [])
  Allowed b (effect.Act i h t k c x) = (nat_lt b.run run ≡ false) × AllDecided (tries_of b.acts)
  Allowed b (effect.Try i s) = (nat_lt b.run run ≡ false) × OfNewest b.acts (λ a. AllDecided a.tries × (a.spent ≡ None))
  Allowed b (effect.Got k v) = (nat_lt b.run run ≡ false) × ((t : Try) → newest b.acts ≡ Some t → Begun t.stamp)
  Allowed b (effect.Acked k) = (nat_lt b.run run ≡ false) × ((t : Try) → newest b.acts ≡ Some t → Begun t.stamp)
  Allowed b (effect.End i o) = (nat_lt b.run run ≡ false) × OutcomeAllowed o b
  Allowed b f = Unit {0}

  in-run : (b : Book) (as' : List Act) → nat_lt b.run run ≡ false → nat_lt b.run run ≡ true → as' ≡ []
  in-run b as' n e = absurd (true≢false (sym e ∙ n))

  -- an attempt gets an answer
  gain-sound : (h : Heard) (b : Book) (x : Answer) → nat_lt b.run run ≡ false → ((t : Try) → newest b.acts ≡ Some t → Begun t.stamp) → BookSound h b → BookSound h (record b { acts = on_try (gain x) b.acts })
  gain-sound h b x n begun k = record {
    past = k.past;
    early = in-run b (on_try (gain x) b.acts) n;
    trail = on-try-trail (gain x) (λ t. refl) b.acts k.trail;
    settled = on-try-every HasSettled (gain x) b.acts (λ t e s. s) k.settled;
    started = on-try-every HasStarted (gain x) b.acts (λ t e s u. begun t e) k.started;
    ended = k.ended;
    begun = k.begun;
    closed = k.closed;
  }

  -- an attempt ends
  end-sound : (h : Heard) (b : Book) (o : Outcome) (shown : ℕ) → nat_lt b.run run ≡ false → EndAllowed o b → BookSound h b → BookSound h (record b { shown = shown; acts = on_try (finish o) b.acts })
  end-sound h b o shown n allowed k = record {
    past = k.past;
    early = in-run b (on_try (finish o) b.acts) n;
    trail = on-try-trail (finish o) (λ t. refl) b.acts k.trail;
    settled = on-try-every HasSettled (finish o) b.acts (λ t e s u. (allowed t e).1 u) k.settled;
    started = on-try-every HasStarted (finish o) b.acts (λ t e s u. (allowed t e).0) k.started;
    ended = k.ended;
    begun = k.begun;
    closed = k.closed;
  }

  spent-sound : (h : Heard) (b : Book) (c : ℕ) → nat_lt b.run run ≡ false → OfNewest b.acts (λ a. AllDecided a.tries) → BookSound h b → BookSound h (record b { acts = on_act (λ a. record a { spent = Some c }) b.acts })
  spent-sound h b c n all k = record {
    past = k.past;
    early = in-run b (on_act (λ a. record a { spent = Some c }) b.acts) n;
    trail = trailed b.acts k.trail all;
    settled = same HasSettled b.acts k.settled;
    started = same HasStarted b.acts k.started;
    ended = k.ended;
    begun = k.begun;
    closed = k.closed;
  }
    where
      trailed : (as' : List Act) → Trail as' → OfNewest as' (λ a. AllDecided a.tries) → Trail (on_act (λ a. record a { spent = Some c }) as')
      trailed [] t all = tt
      trailed (a ∷ done) t all = (t.0, t.1, λ c' e. all)

      same : (P : Try → Type 0) (as' : List Act) → Every P (tries_of as') → Every P (tries_of (on_act (λ a. record a { spent = Some c }) as'))
      same P [] e = e
      same P (a ∷ done) e = e

  close-sound : (h : Heard) (b : Book) (o : Outcome) → nat_lt b.run run ≡ false → OutcomeAllowed o b → BookSound h b → BookSound h (close o b)
  close-sound h b (outcome.LaterRead o e) n a k = end-sound h b (outcome.LaterRead o e) (max b.shown e.stamp.clock) n a k
  close-sound h b (outcome.LaterVersion o x) n a k = end-sound h b (outcome.LaterVersion o x) (max b.shown x.stamp.clock) n a k
  close-sound h b (outcome.Expired d m) n a k = end-sound h b (outcome.Expired d m) b.shown n a k
  close-sound h b (outcome.Spent c) n a k = spent-sound h b c n a k
  close-sound h b o n a k = end-sound h b o b.shown n a k

  -- a new attempt has no answer and no End
  try-sound : (h : Heard) (b : Book) (s : StampParts) → nat_lt b.run run ≡ false → OfNewest b.acts (λ a. AllDecided a.tries × (a.spent ≡ None)) → BookSound h b →
      BookSound h (record b { clock = max b.clock s.clock; acts = on_act (λ a. record a { tries = new_try a s ∷ a.tries }) b.acts })
  try-sound h b s n all k = record {
    past = k.past;
    early = in-run b (on_act (λ a. record a { tries = new_try a s ∷ a.tries }) b.acts) n;
    trail = trailed b.acts k.trail all;
    settled = one HasSettled b.acts (λ a e. absurd (false≢true e)) k.settled;
    started = one HasStarted b.acts (λ a e. absurd (true≢false e)) k.started;
    ended = k.ended;
    begun = k.begun;
    closed = k.closed;
  }
    where
      trailed : (as' : List Act) → Trail as' → OfNewest as' (λ a. AllDecided a.tries × (a.spent ≡ None)) → Trail (on_act (λ a. record a { tries = new_try a s ∷ a.tries }) as')
      trailed [] t all = tt
      trailed (a ∷ done) t all = (t.0, all.0, λ c e. let no : Some c ≡ None = sym e ∙ all.1 in absurd (cc no))

      one : (P : Try → Type 0) (as' : List Act) → ((a : Act) → P (new_try a s)) → Every P (tries_of as') → Every P (tries_of (on_act (λ a. record a { tries = new_try a s ∷ a.tries }) as'))
      one P [] p e = e
      one P (a ∷ done) p e = (p a, e)

  -- an effect is entered
  pub enter-sound : (h : Heard) (b : Book) (f : Effect) → Allowed b f → BookSound h b → BookSound h (enter f b)
  enter-sound h b (effect.Run n) a k = record {
    past = subst (λ as'. as' ++ b.past ≡ []) (sym a.1) k.past;
    early = λ e. absurd (true≢false (sym e ∙ subst (λ m. nat_lt m run ≡ false) (sym a.0) (not-below run)));
    trail = tt;
    settled = tt;
    started = tt;
    ended = k.ended;
    begun = k.begun;
    closed = k.closed;
  }
  enter-sound h b (effect.Act i home t tries c x) a k = record {
    past = k.past;
    early = in-run b (record { run = b.run; task = task_with i home t tries c x; tries = []; spent = None } ∷ b.acts) a.0;
    trail = (a.1, tt, λ c' e. tt);
    settled = k.settled;
    started = k.started;
    ended = k.ended;
    begun = k.begun;
    closed = k.closed;
  }
  enter-sound h b (effect.Try i s) a k = try-sound h b s a.0 a.1 k
  enter-sound h b (effect.Got n v) a k = gain-sound h b (Got v) a.0 a.1 k
  enter-sound h b (effect.Acked n) a k = gain-sound h b Stored a.0 a.1 k
  enter-sound h b (effect.End i o) a k = close-sound h b o a.0 a.1 k
  enter-sound h b f a k = k

  -- ---- stages

  -- what a stage says: beyond Opening the attempt has begun, and no Ended was heard
  abbrev pub StageSound : Stage → Type 0
  StageSound (Refused t) = ⊥
  StageSound (Asking t q) = Begun t.stamp
  StageSound (Finishing t) = Begun t.stamp
  StageSound (Stopping t (outcome.Withdrawn l)) = Begun t.stamp
  StageSound (Stopping t (outcome.Failed l k)) = Begun t.stamp
  StageSound (Stopping t o) = ⊥
  StageSound (Closing t) = Begun t.stamp × (is_none t.end ≡ false)
  StageSound _ = Unit {0}

  by-stop-sound : (t : Try) (s : Stop) → Begun t.stamp → StageSound (by_stop t s)
  by-stop-sound t (Over ending.Finished) k = k
  by-stop-sound t _ k = k

  pub stamp-heard : (o : Option StampParts) (s : StampParts) → is_stamp o s ≡ true → o ≡ Some s
  stamp-heard None s e = absurd (false≢true e)
  stamp-heard (Some x) s e = ap (λ z. Some z) (same_stamp-is x s e)

  -- the open attempt is among those of the book
  pub open-among : (as' : List Act) (t : Try) → open_of as' ≡ Some t → Has t (tries_of as') × (t.end ≡ None) × (newest as' ≡ Some t)
  open-among [] t e = absurd (cc e)
  open-among (a ∷ done) t e = (elim a.tries as (λ ts. open_front ts ≡ Some t → Has t (ts ++ tries_of done) × (t.end ≡ None) × (front ts ≡ Some t)) [ [] ↦ λ e. absurd (cc e) | x ∷ ts ↦ λ e. here x ts x.end refl e ]) e
    where
      here : (x : Try) (ts : List Try) (o : Option Outcome) → x.end ≡ o → if_open x o ≡ Some t → Has t ((x ∷ ts) ++ tries_of done) × (t.end ≡ None) × (front (x ∷ ts) ≡ Some t)
      here x ts None q e = let k : x ≡ t = cc e in (inl k, subst (λ (y : Try). y.end ≡ None) k q, e)
      here x ts (Some o) q e = absurd (cc e)

  pub last-among : (as' : List Act) (t : Try) → front (tries_of as') ≡ Some t → Has t (tries_of as')
  last-among as' t e = (elim (tries_of as') as (λ ts. front ts ≡ Some t → Has t ts) [ [] ↦ λ e. absurd (cc e) | x ∷ ts ↦ λ e. let k : x ≡ t = cc e in inl k ]) e

  open-sound : (h : Heard) (b : Book) (t : Try) → BookSound h b → open_try b ≡ Some t → StageSound (of_open script h t)
  open-sound h b t k e = first (is_asking (stop_of script t) && is_time h.ended (record { stamp = t.stamp; step = length t.answers + 1 })) refl
    where
      among : Has t (tries_of b.acts) × (t.end ≡ None) × (newest b.acts ≡ Some t)
      among = open-among b.acts t e

      by-answer : (n : Bool) → no_answer t ≡ n → (s : Bool) → is_stamp h.begun t.stamp ≡ s → StageSound (if n && (if s then false else true) then Opening t else by_stop t (stop_of script t))
      by-answer true q true r = by-stop-sound t (stop_of script t) (k.begun t.stamp (stamp-heard h.begun t.stamp r))
      by-answer true q false r = tt
      by-answer false q s r = by-stop-sound t (stop_of script t) (every-has HasStarted (tries_of b.acts) t k.started among.0 (subst (λ z. (z && is_none t.end) ≡ false) (sym q) refl))

      never-time : (c : Bool) (o : Option TimeParts) (x : TimeParts) → o ≡ None → (c && is_time o x) ≡ true → ⊥
      never-time true None x e m = false≢true m
      never-time false None x e m = false≢true m
      never-time c (Some y) x e m = absurd (cc e)

      first : (c : Bool) → (is_asking (stop_of script t) && is_time h.ended (record { stamp = t.stamp; step = length t.answers + 1 })) ≡ c →
          StageSound (if c then Refused t else (if no_answer t && (if is_stamp h.begun t.stamp then false else true) then Opening t else by_stop t (stop_of script t)))
      first true q = never-time (is_asking (stop_of script t)) h.ended (record { stamp = t.stamp; step = length t.answers + 1 }) k.ended q
      first false q = by-answer (no_answer t) refl (is_stamp h.begun t.stamp) refl

  last-sound : (h : Heard) (b : Book) (t : Try) → BookSound h b → last_try b ≡ Some t → StageSound (if is_none t.end || is_closed h t then Idle else Closing t)
  last-sound h b t k e = go (is_none t.end) refl (is_closed h t)
    where
      go : (n : Bool) → is_none t.end ≡ n → (c : Bool) → StageSound (if n || c then Idle else Closing t)
      go true q c = tt
      go false q true = tt
      go false q false = (every-has HasStarted (tries_of b.acts) t k.started (last-among b.acts t e) ((elim (no_answer t) as (λ a. is_none t.end ≡ false → (a && is_none t.end) ≡ false) [ true ↦ λ q. q | false ↦ λ q. refl ]) q), q)

  pub stage-sound : (h : Heard) (b : Book) → BookSound h b → StageSound (stage script run b h)
  stage-sound h b k = elim (b.run == run) as (λ c. StageSound (if c then stage_of script h (open_try b) (last_try b) else Idle)) [ true ↦ by-open (open_try b) (last_try b) refl refl | false ↦ tt ]
    where
      by-open : (o last : Option Try) → open_try b ≡ o → last_try b ≡ last → StageSound (stage_of script h o last)
      by-open (Some t) last e l = open-sound h b t k e
      by-open None None e l = tt
      by-open None (Some t) e l = last-sound h b t k l
