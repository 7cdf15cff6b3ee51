-- after a message that is heard, the request that stands is a new one
use Rattle.broker_laws.proofs.Names.{StampParts, TimeParts, Task, Decision, Effect, Outcome, Message, NodeId, Out, Post, Act, Book, Try, book, close, enter, finish, front, gain, if_open, last_try, new_try, on_act, on_front, on_try, open_front, open_of, open_try, time_of, tries_of, is_none, stop_of, Answered, Begun, Decided, News, Over_there, Refusal, decided_commit, decided_early, news, row, when, Asking, Closing, Finishing, Idle, Opening, Refused, Stage, by_stop, is_asking, is_closed, is_finished, is_settled, no_answer, stage, stage_of, standing, broker, repository, is_stamp, is_time, Desk, Take, desk_turn, fuel, hears, note, note_if, reply, say, send, settle_up, state, all_effects, Heard, Reply, Adds, Hears, Ignored, EndFits, FitsBook, IsTidy, MayTry, Clocks, IsBelow, TurnHolds, same_stamp-self, Every, same_stamp, same_time, Answer, Asks, Got, Over, Stop, Stored, ToRead, ToWrite, Tree, ◌≡◌, ℕ, zero, suc, ◌+◌, ◌<◌, ◌≤◌, ◌==◌, Bool, true, false, ◌&&◌, ◌||◌, length, List, [], ◌∷◌, ◌++◌, refl, sym, ◌∙◌, ap, subst, Option, Some, None, ◌⊎◌, inl, inr, if◌then◌else◌, arith, length-append}
use Rattle.pseudo_time.specs.declared.decisions.Decision.TheVariants as decision
use Rattle.effect_form.specs.declared.effects.Effect.TheVariants as effect
use Rattle.effect_form.specs.declared.outcomes.Outcome.TheVariants as outcome
use Rattle.message_form.specs.declared.messages.Message.TheVariants as message
use Rattle.value_form.specs.declared.endings.Ending.TheVariants as ending
use Rattle.broker_laws.proofs.Desks.{Good, OwedOk, ReplyOk, StageOk, last-first, news-came, note-state, open-first, owed-ok, row-ok, stage-ok}
use Rattle.broker_laws.proofs.Kept.{kept}
use Rattle.broker_laws.proofs.Moves.{clocks, grown, if-open}
use Rattle.broker_laws.proofs.TestLemmas.{and-right, same_time-self}

-- the open try after one effect
open-gain : (x : Answer) (t : Try) (acts : List Act) → open_of (on_try (gain x) acts) ≡ Some t → (u : Try) × (open_of acts ≡ Some u) × (gain x u ≡ t)
open-gain x t [] e = cc
open-gain x t (a ∷ done) e = (elim a.tries as (λ ts. open_front (on_front (gain x) ts) ≡ Some t → (u : Try) × (open_front ts ≡ Some u) × (gain x u ≡ t)) [ [] ↦ λ e. cc | y ∷ ts ↦ λ e. ends-so y y.end e ]) e
  where
    ends-so : (y : Try) (o : Option Outcome) → if_open (gain x y) o ≡ Some t → (u : Try) × (if_open y o ≡ Some u) × (gain x u ≡ t)
    ends-so y None e = (y, refl, cc)
    ends-so y (Some o) e = cc

open-finish : (o : Outcome) (t : Try) (acts : List Act) → open_of (on_try (finish o) acts) ≡ Some t → ⊥
open-finish o t [] e = cc
open-finish o t (a ∷ done) e = (elim a.tries as (λ ts. open_front (on_front (finish o) ts) ≡ Some t → ⊥) [ [] ↦ λ e. cc | y ∷ ts ↦ λ e. cc ]) e

open-last : (g : Try → Try) (acts : List Act) (t : Try) → open_of acts ≡ Some t → (front (tries_of acts) ≡ Some t) × (front (tries_of (on_try g acts)) ≡ Some (g t)) × (t.end ≡ None)
open-last g [] t e = cc
open-last g (a ∷ done) t e = fronts a.tries (tries_of done) e
  where
    fronts : (ts more : List Try) → open_front ts ≡ Some t → (front (ts ++ more) ≡ Some t) × (front (on_front g ts ++ more) ≡ Some (g t)) × (t.end ≡ None)
    fronts [] more e = cc
    fronts (y ∷ ts) more e = let h = if-open y y.end t e in (ap (λ z. Some z) h.0, ap (λ z. Some (g z)) h.0, subst (λ (z : Try). z.end ≡ None) h.0 h.1)

module _ (script : List ℕ → Tree) (me : ℕ) where
  -- the clock is at s or past it, and an open try of stamp s has so many answers that R holds
  abbrev Past : (ℕ → Type 0) → StampParts → Book → Type 0
  Past R s b = (s.clock ≤ b.clock) × ((t : Try) → open_try b ≡ Some t → t.stamp ≡ s → R (length t.answers))

  past-try : (R : ℕ → Type 0) (s : StampParts) (i : ℕ) (x : StampParts) (b : Book) (acts : List Act) →
      MayTry i acts (λ a. (x.broker ≡ me) × (x.home ≡ a.task.home) × (b.clock < x.clock)) → s.clock ≤ b.clock →
      (t : Try) → open_of (on_act (λ a. record a { tries = new_try a x ∷ a.tries }) acts) ≡ Some t → t.stamp ≡ s → R (length t.answers)
  past-try R s i x b [] f c t e k = absurd f
  past-try R s i x b (a ∷ done) f c t e k =
      let n : new_try a x ≡ t = cc in
      let y : x ≡ s = ap (λ (z : Try). z.stamp) n ∙ k in
      let l : s.clock < s.clock = subst (λ (z : StampParts). s.clock < z.clock) y (let q = f.3.2 in omega arith) in
      absurd (omega arith)

  past-gain : (R : ℕ → Type 0) → ((n : ℕ) → R n → R (n + 1)) → (s : StampParts) (x : Answer) (b : Book) → Past R s b →
      (t : Try) → open_of (on_try (gain x) b.acts) ≡ Some t → t.stamp ≡ s → R (length t.answers)
  past-gain R mono s x b p t e k =
      let u = open-gain x t b.acts e in
      let r : R (length u.0.answers) = p.1 u.0 u.1 (ap (λ (z : Try). z.stamp) u.2 ∙ k) in
      subst (λ (z : Try). R (length z.answers)) u.2 (subst (λ n. R n) (sym (length-append u.0.answers (x ∷ []))) (mono (length u.0.answers) r))

  past-close : (R : ℕ → Type 0) (s : StampParts) (i : ℕ) (o : Outcome) (b : Book) → Past R s b → Past R s (close o b)
  past-close R s i (outcome.Spent c) b p = (p.0, λ t e k. p.1 t ((elim b.acts as (λ acts. open_of acts ≡ open_of (on_act (λ a. record a { spent = Some c }) acts)) [ [] ↦ refl | a ∷ done ↦ refl ]) ∙ e) k)
  past-close R s i o b p = (p.0, λ t e k. absurd (open-finish _ t b.acts e))

  past-kept : (R : ℕ → Type 0) → ((n : ℕ) → R n → R (n + 1)) → (s : StampParts) (b : Book) (f : Effect) → FitsBook script me b f → Past R s b → Past R s (enter f b)
  past-kept R mono s b (effect.Run n) f p = (p.0, λ t e k. absurd (let z : None ≡ Some t = e in cc))
  past-kept R mono s b (effect.Act i x t k c y) f p = (p.0, λ t e k. absurd (let z : None ≡ Some t = e in cc))
  past-kept R mono s b (effect.Try i x) f p = (let q = p.0 in omega arith, past-try R s i x b b.acts f p.0)
  past-kept R mono s b (effect.Got k v) f p = (p.0, past-gain R mono s (Got v) b p)
  past-kept R mono s b (effect.Acked k) f p = (p.0, past-gain R mono s Stored b p)
  past-kept R mono s b (effect.End i o) f p = past-close R s i o b p
  past-kept R mono s b g f p = absurd f

  -- the last try, where it has stamp s, was decided by its home
  abbrev Sure : StampParts → Book → Type 0
  Sure s b = (s.clock ≤ b.clock) × ((t : Try) → last_try b ≡ Some t → t.stamp ≡ s → is_settled t.end ≡ true)

  sure-open : (s : StampParts) (g : Try → Try) (b : Book) (u : Try) → open_try b ≡ Some u → (g u).stamp ≡ u.stamp → Sure s b →
      (t : Try) → front (tries_of (on_try g b.acts)) ≡ Some t → t.stamp ≡ s → is_settled t.end ≡ true
  sure-open s g b u e same p t l k =
      let w = open-last g b.acts u e in
      let n : Some (g u) ≡ Some t = sym w.1 ∙ l in
      let n' : g u ≡ t = cc in
      let r : is_settled u.end ≡ true = p.1 u w.0 (sym same ∙ ap (λ (z : Try). z.stamp) n' ∙ k) in
      let z : false ≡ true = subst (λ o. is_settled o ≡ true) w.2 r in cc

  sure-try : (s : StampParts) (i : ℕ) (x : StampParts) (b : Book) (acts : List Act) →
      MayTry i acts (λ a. (x.broker ≡ me) × (x.home ≡ a.task.home) × (b.clock < x.clock)) → s.clock ≤ b.clock →
      (t : Try) → front (tries_of (on_act (λ a. record a { tries = new_try a x ∷ a.tries }) acts)) ≡ Some t → t.stamp ≡ s → is_settled t.end ≡ true
  sure-try s i x b [] f c t e k = absurd f
  sure-try s i x b (a ∷ done) f c t e k =
      let n : new_try a x ≡ t = cc in
      let y : x ≡ s = ap (λ (z : Try). z.stamp) n ∙ k in
      let l : s.clock < s.clock = subst (λ (z : StampParts). s.clock < z.clock) y (let q = f.3.2 in omega arith) in
      absurd (omega arith)

  sure-close : (s : StampParts) (i : ℕ) (o : Outcome) (b : Book) → EndFits script i o b → Sure s b → Sure s (close o b)
  sure-close s i (outcome.Spent c) b f p = (p.0, λ t e k. p.1 t ((elim b.acts as (λ acts. front (tries_of acts) ≡ front (tries_of (on_act (λ a. record a { spent = Some c }) acts))) [ [] ↦ refl | a ∷ done ↦ refl ]) ∙ e) k)
  sure-close s i o b f p = (p.0, sure-open s (finish o) b f.0 f.1 refl p)

  sure-kept : (s : StampParts) (b : Book) (f : Effect) → FitsBook script me b f → Sure s b → Sure s (enter f b)
  sure-kept s b (effect.Run n) f p = (p.0, λ t e k. absurd (let z : None ≡ Some t = e in cc))
  sure-kept s b (effect.Act i x t k c y) f p = (p.0, λ t e k. p.1 t e k)
  sure-kept s b (effect.Try i x) f p = (let q = p.0 in omega arith, sure-try s i x b b.acts f p.0)
  sure-kept s b (effect.Got k v) f p = (p.0, sure-open s (gain (Got v)) b f.0 f.1 refl p)
  sure-kept s b (effect.Acked k) f p = (p.0, sure-open s (gain Stored) b f.0 f.1 refl p)
  sure-kept s b (effect.End i o) f p = sure-close s i o b f p
  sure-kept s b g f p = absurd f

  module _ (run : ℕ) (acts : List Task) where
    -- what a stage says of what was heard
    abbrev Says : Book → Heard → Stage → Type 0
    Says b h (Opening t) = is_stamp h.begun t.stamp ≡ false
    Says b h (Asking t q) = is_time h.ended (time_of t) ≡ false
    Says b h (Closing t) = (open_try b ≡ None) × (is_stamp h.closed t.stamp ≡ false) × (is_settled t.end ≡ false)
    Says b h _ = Unit {0}

    if-says : (b : Book) (h : Heard) (c : Bool) (x y : Stage) → (c ≡ true → Says b h x) → (c ≡ false → Says b h y) → Says b h (if c then x else y)
    if-says b h true x y p q = p refl
    if-says b h false x y p q = q refl

    turned : (c : Bool) → (if c then false else true) ≡ true → c ≡ false
    turned true h = cc
    turned false h = refl

    by-stop-says : (b : Book) (h : Heard) (t : Try) (s : Stop) → (is_asking s && is_time h.ended (time_of t)) ≡ false → Says b h (by_stop t s)
    by-stop-says b h t (Asks q) e = e
    by-stop-says b h t (Over ending.Finished) e = tt
    by-stop-says b h t (Over _) e = tt

    two-false : (n s c : Bool) → (n || (if n then false else (s || c))) ≡ false → (s ≡ false) × (c ≡ false)
    two-false true s c e = cc
    two-false false true c e = cc
    two-false false false c e = (refl, e)

    of-says : (b : Book) (h : Heard) (o last : Option Try) → open_try b ≡ o → Says b h (stage_of script h o last)
    of-says b h (Some t) last e =
        if-says b h (is_asking (stop_of script t) && is_time h.ended (time_of t)) (Refused t)
        (if no_answer t && (if is_stamp h.begun t.stamp then false else true) then Opening t else by_stop t (stop_of script t))
        (λ k. tt)
        (λ k. if-says b h (no_answer t && (if is_stamp h.begun t.stamp then false else true)) (Opening t) (by_stop t (stop_of script t))
        (λ j. turned (is_stamp h.begun t.stamp) (and-right (no_answer t) _ j)) (λ j. by-stop-says b h t (stop_of script t) k))
    of-says b h None None e = tt
    of-says b h None (Some t) e =
        if-says b h (is_none t.end || is_closed h t) Idle (Closing t) (λ k. tt)
        (λ k. let r = two-false (is_none t.end) (is_settled t.end) (is_stamp h.closed t.stamp) k in (e, r.1, r.0))

    says : (b : Book) (h : Heard) → Says b h (stage script run b h)
    says b h = if-says b h (b.run == run) (stage_of script h (open_try b) (last_try b)) Idle (λ k. of-says b h (open_try b) (last_try b) refl) (λ k. tt)

    -- the stage at which the message stands
    abbrev AskingOf : TimeParts → Stage → Type 0
    AskingOf x (Asking t q) = time_of t ≡ x
    AskingOf x _ = ⊥

    abbrev StageOf : Message → Stage → Type 0
    StageOf (message.Begin s k) (Opening t) = t.stamp ≡ s
    StageOf (message.Read x o) st = AskingOf x st
    StageOf (message.Write x o v) st = AskingOf x st
    StageOf (message.Commit s) (Finishing t) = t.stamp ≡ s
    StageOf (message.Withdraw s) (Refused t) = t.stamp ≡ s
    StageOf (message.Withdraw s) (Closing t) = t.stamp ≡ s
    StageOf m st = ⊥

    stage-of : (st : Stage) (o : Out) → standing st ≡ Some o → StageOf o.message st
    stage-of (Refused t) o e = let q : record { to = repository t.stamp.home; message = message.Withdraw t.stamp } ≡ o = cc e in subst (λ (z : Out). StageOf z.message (Refused t)) q refl
    stage-of (Opening t) o e = let q : record { to = repository t.stamp.home; message = message.Begin t.stamp t.task.timeout } ≡ o = cc e in subst (λ (z : Out). StageOf z.message (Opening t)) q refl
    stage-of (Asking t (ToRead p)) o e = let q : record { to = repository p.repository; message = message.Read (time_of t) p } ≡ o = cc e in subst (λ (z : Out). StageOf z.message (Asking t (ToRead p))) q refl
    stage-of (Asking t (ToWrite p w)) o e = let q : record { to = repository p.repository; message = message.Write (time_of t) p w } ≡ o = cc e in subst (λ (z : Out). StageOf z.message (Asking t (ToWrite p w))) q refl
    stage-of (Finishing t) o e = let q : record { to = repository t.stamp.home; message = message.Commit t.stamp } ≡ o = cc e in subst (λ (z : Out). StageOf z.message (Finishing t)) q refl
    stage-of (Closing t) o e = let q : record { to = repository t.stamp.home; message = message.Withdraw t.stamp } ≡ o = cc e in subst (λ (z : Out). StageOf z.message (Closing t)) q refl
    stage-of _ o e = cc

    -- what blocks the old request
    Never : ℕ → Type 0
    Never n = ⊥

    abbrev Blocked : Stage → Heard → Book → Type 0
    Blocked (Refused t) h b = Past Never t.stamp b × Sure t.stamp b
    Blocked (Opening t) h b = (h.begun ≡ Some t.stamp) ⊎ Past Never t.stamp b
    Blocked (Asking t q) h b = (h.ended ≡ Some (time_of t)) ⊎ Past (λ n. length t.answers + 1 ≤ n) t.stamp b
    Blocked (Finishing t) h b = Past Never t.stamp b
    Blocked (Closing t) h b = (h.closed ≡ Some t.stamp) × Past Never t.stamp b
    Blocked _ h b = Unit {0}

    never-more : (n : ℕ) → Never n → Never (n + 1)
    unfolding Never
    never-more n h = h

    blocked-kept : (st : Stage) (h : Heard) (b : Book) (f : Effect) → FitsBook script me b f → Blocked st h b → Blocked st h (enter f b)
    blocked-kept (Refused t) h b f w k = (past-kept Never never-more t.stamp b f w k.0, sure-kept t.stamp b f w k.1)
    blocked-kept (Opening t) h b f w k = elim k [ inl e ↦ inl e | inr p ↦ inr (past-kept Never never-more t.stamp b f w p) ]
    blocked-kept (Asking t q) h b f w k = elim k [ inl e ↦ inl e | inr p ↦ inr (past-kept (λ n. length t.answers + 1 ≤ n) (λ n r. omega arith) t.stamp b f w p) ]
    blocked-kept (Finishing t) h b f w k = past-kept Never never-more t.stamp b f w k
    blocked-kept (Closing t) h b f w k = (k.0, past-kept Never never-more t.stamp b f w k.1)
    blocked-kept _ h b f w k = tt

    stamp-clash : (o : Option StampParts) (s x : StampParts) → o ≡ Some s → x ≡ s → is_stamp o x ≡ false → ⊥
    stamp-clash o s x e k n =
        let a : is_stamp (Some s) s ≡ false = subst (λ y. is_stamp y s ≡ false) e (subst (λ y. is_stamp o y ≡ false) k n) in
        let c : true ≡ false = sym (same_stamp-self s) ∙ a in cc

    time-clash : (o : Option TimeParts) (x y : TimeParts) → o ≡ Some x → y ≡ x → is_time o y ≡ false → ⊥
    time-clash o x y e k n =
        let a : is_time (Some x) x ≡ false = subst (λ z. is_time z x ≡ false) e (subst (λ z. is_time o z ≡ false) k n) in
        let c : true ≡ false = sym (same_time-self x) ∙ a in cc

    open-clash : (b : Book) (t u : Try) → open_try b ≡ Some u → u.stamp ≡ t.stamp → Past Never t.stamp b → ⊥
    unfolding Never
    open-clash b t u e k p = p.1 u e k

    no-begin : (b : Book) (h : Heard) (t : Try) (st : Stage) → StageOk script me run acts b st → Says b h st → (h.begun ≡ Some t.stamp) ⊎ Past Never t.stamp b → (k : ℕ) → StageOf (message.Begin t.stamp k) st → ⊥
    no-begin b h t (Opening u) ok sa k n e = elim k [ inl w ↦ stamp-clash h.begun t.stamp u.stamp w e sa | inr p ↦ open-clash b t u ok e p ]
    no-begin b h t x ok sa k n e = e

    no-ask : (b : Book) (h : Heard) (t : Try) (st : Stage) → StageOk script me run acts b st → Says b h st →
        (h.ended ≡ Some (time_of t)) ⊎ Past (λ n. length t.answers + 1 ≤ n) t.stamp b → AskingOf (time_of t) st → ⊥
    no-ask b h t (Asking u q) ok sa k e =
        elim k [
          | inl w ↦ time-clash h.ended (time_of t) (time_of u) w e sa
          | inr p ↦ let r : length t.answers + 1 ≤ length u.answers = p.1 u ok.0 (ap (λ (y : TimeParts). y.stamp) e) in
              let n : length u.answers + 1 ≡ length t.answers + 1 = ap (λ (y : TimeParts). y.step) e in absurd (omega arith)
        ]
    no-ask b h t x ok sa k e = e

    no-commit : (b : Book) (t : Try) (st : Stage) → StageOk script me run acts b st → Past Never t.stamp b → StageOf (message.Commit t.stamp) st → ⊥
    no-commit b t (Finishing u) ok p e = open-clash b t u ok.0 e p
    no-commit b t x ok p e = e

    no-withdraw : (b : Book) (h : Heard) (t : Try) (st : Stage) → StageOk script me run acts b st → Says b h st → Past Never t.stamp b →
        (h.closed ≡ Some t.stamp) ⊎ Sure t.stamp b → StageOf (message.Withdraw t.stamp) st → ⊥
    no-withdraw b h t (Refused u) ok sa p k e = open-clash b t u ok e p
    no-withdraw b h t (Closing u) ok sa p k e =
        elim k [ inl w ↦ stamp-clash h.closed t.stamp u.stamp w e sa.1 | inr r ↦ let c : true ≡ false = sym (r.1 u ok e) ∙ sa.2 in cc ]
    no-withdraw b h t x ok sa p k e = e

    -- a blocked request doesn't stand
    blocked-new : (st : Stage) (h : Heard) (b : Book) (new : Stage) → StageOk script me run acts b new → Says b h new → Blocked st h b → (o : Out) → standing st ≡ Some o → standing new ≡ Some o → ⊥
    blocked-new (Opening t) h b new ok sa k o e w = no-begin b h t new ok sa k t.task.timeout (stage-of new _ (w ∙ sym e))
    blocked-new (Asking t (ToRead x)) h b new ok sa k o e w = no-ask b h t new ok sa k (stage-of new _ (w ∙ sym e))
    blocked-new (Asking t (ToWrite x v)) h b new ok sa k o e w = no-ask b h t new ok sa k (stage-of new _ (w ∙ sym e))
    blocked-new (Finishing t) h b new ok sa k o e w = no-commit b t new ok k (stage-of new _ (w ∙ sym e))
    blocked-new (Refused t) h b new ok sa k o e w = no-withdraw b h t new ok sa k.0 (inr k.1) (stage-of new _ (w ∙ sym e))
    blocked-new (Closing t) h b new ok sa k o e w = no-withdraw b h t new ok sa k.1 (inl k.0) (stage-of new _ (w ∙ sym e))
    blocked-new _ h b new ok sa k o e w = cc

    -- a message that is heard blocks the old request
    open-clock : (b : Book) (t : Try) → Clocks me b → open_try b ≡ Some t → t.stamp.clock ≤ b.clock
    open-clock b t c e =
        let w = open-first script me run acts b t e in
        let k : Every (IsBelow me b.clock) (t ∷ w.0) = subst (λ xs. Every (IsBelow me b.clock) xs) w.1 c in k.0.0

    last-clock : (b : Book) (t : Try) → Clocks me b → last_try b ≡ Some t → t.stamp.clock ≤ b.clock
    last-clock b t c e =
        let w = last-first script me run acts t b.acts b.past e in
        let k : Every (IsBelow me b.clock) (t ∷ w.0) = subst (λ xs. Every (IsBelow me b.clock) xs) w.1 c in k.0.0

    gone : (R : ℕ → Type 0) (o : Outcome) (s : StampParts) (b : Book) → (t : Try) → open_of (on_try (finish o) b.acts) ≡ Some t → t.stamp ≡ s → R (length t.answers)
    gone R o s b t e k = absurd (open-finish o t b.acts e)

    gained : (x : Answer) (b : Book) (t : Try) → open_try b ≡ Some t → (u : Try) → open_of (on_try (gain x) b.acts) ≡ Some u → u.stamp ≡ t.stamp → length t.answers + 1 ≤ length u.answers
    gained x b t e u w k =
        let g = open-gain x u b.acts w in
        let n : Some t ≡ Some g.0 = sym e ∙ g.1 in
        let n' : t ≡ g.0 = cc in
        subst (λ (z : Try). length t.answers + 1 ≤ length z.answers) g.2
        (subst (λ (z : Try). length t.answers + 1 ≤ length (z.answers ++ (x ∷ []))) n'
        (subst (λ l. length t.answers + 1 ≤ l) (sym (length-append t.answers (x ∷ []))) (omega arith)))

    sure-expired : (d m : ℕ) (b : Book) (t : Try) → open_try b ≡ Some t →
        (u : Try) → front (tries_of (on_try (finish (outcome.Expired d m)) b.acts)) ≡ Some u → u.stamp ≡ t.stamp → is_settled u.end ≡ true
    sure-expired d m b t e u l k =
        let n : Some (finish (outcome.Expired d m) t) ≡ Some u = sym (open-last (finish (outcome.Expired d m)) b.acts t e).1 ∙ l in
        let n' : finish (outcome.Expired d m) t ≡ u = cc in
        subst (λ (z : Try). is_settled z.end ≡ true) n' refl

    abbrev RowBlocks : Stage → Heard → Book → Reply → Type 0
    RowBlocks st h b Ignored = Unit {0}
    RowBlocks st h b (Hears h') = Blocked st h' b
    RowBlocks st h b (Adds f) = Blocked st h (enter f b)

    when-blocks : (st : Stage) (h : Heard) (b : Book) (c : Bool) (r : Reply) → RowBlocks st h b r → RowBlocks st h b (when c r)
    when-blocks st h b true r k = k
    when-blocks st h b false r k = tt

    early-blocks : (h : Heard) (b : Book) (done : Bool) (t : Try) (d : Decision) → Clocks me b → open_try b ≡ Some t → RowBlocks (Opening t) h b (decided_early done t d)
    early-blocks h b done t decision.Committed c e = when-blocks (Opening t) h b done _ (inr (open-clock b t c e, gone Never outcome.Committed t.stamp b))
    early-blocks h b done t decision.Withdrawn c e = tt
    early-blocks h b done t (decision.Expired x m) c e = inr (open-clock b t c e, gone Never (outcome.Expired x m) t.stamp b)

    refused-blocks : (h : Heard) (b : Book) (t : Try) (d : Decision) → Clocks me b → open_try b ≡ Some t → RowBlocks (Refused t) h b (decided_early false t d)
    refused-blocks h b t (decision.Expired x m) c e = ((open-clock b t c e, gone Never (outcome.Expired x m) t.stamp b), (open-clock b t c e, sure-expired x m b t e))
    refused-blocks h b t _ c e = tt

    commit-blocks : (h : Heard) (b : Book) (t : Try) (d : Decision) → Clocks me b → open_try b ≡ Some t → RowBlocks (Finishing t) h b (decided_commit t d)
    commit-blocks h b t decision.Committed c e = (open-clock b t c e, gone Never outcome.Committed t.stamp b)
    commit-blocks h b t decision.Withdrawn c e = tt
    commit-blocks h b t (decision.Expired x m) c e = (open-clock b t c e, gone Never (outcome.Expired x m) t.stamp b)

    row-blocks : (b : Book) (h : Heard) (st : Stage) (n : News) → StageOk script me run acts b st → Says b h st → Clocks me b → RowBlocks st h b (row script st h n)
    row-blocks b h (Opening t) (Begun s) ok sa c = when-blocks (Opening t) h b (same_stamp t.stamp s) _ (inl refl)
    row-blocks b h (Opening t) (Decided s d) ok sa c = when-blocks (Opening t) h b (same_stamp t.stamp s) _ (early-blocks h b (is_finished (stop_of script t)) t d c ok)
    row-blocks b h (Asking t (ToRead o)) (Answered x (Got v)) ok sa c = when-blocks (Asking t (ToRead o)) h b (same_time (time_of t) x) _ (inr (open-clock b t c ok.0, gained (Got v) b t ok.0))
    row-blocks b h (Asking t (ToWrite o v)) (Answered x Stored) ok sa c = when-blocks (Asking t (ToWrite o v)) h b (same_time (time_of t) x) _ (inr (open-clock b t c ok.0, gained Stored b t ok.0))
    row-blocks b h (Asking t (ToRead o)) (Refusal x e true) ok sa c =
        when-blocks (Asking t (ToRead o)) h b (same_time (time_of t) x) _
        (inr (open-clock b t c ok.0, gone (λ n. length t.answers + 1 ≤ n) (outcome.LaterRead o e) t.stamp b))
    row-blocks b h (Asking t (ToWrite o v)) (Refusal x e true) ok sa c =
        when-blocks (Asking t (ToWrite o v)) h b (same_time (time_of t) x) _
        (inr (open-clock b t c ok.0, gone (λ n. length t.answers + 1 ≤ n) (outcome.LaterRead o e) t.stamp b))
    row-blocks b h (Asking t (ToWrite o v)) (Refusal x e false) ok sa c =
        when-blocks (Asking t (ToWrite o v)) h b (same_time (time_of t) x) _
        (inr (open-clock b t c ok.0, gone (λ n. length t.answers + 1 ≤ n) (outcome.LaterVersion o e) t.stamp b))
    row-blocks b h (Asking t q) (Over_there x) ok sa c = when-blocks (Asking t q) h b (same_time (time_of t) x) _ (inl refl)
    row-blocks b h (Finishing t) (Decided s d) ok sa c = when-blocks (Finishing t) h b (same_stamp t.stamp s) _ (commit-blocks h b t d c ok.0)
    row-blocks b h (Refused t) (Decided s d) ok sa c = when-blocks (Refused t) h b (same_stamp t.stamp s) _ (refused-blocks h b t d c ok)
    row-blocks b h (Closing t) (Decided s d) ok sa c =
        when-blocks (Closing t) h b (same_stamp t.stamp s) _
        (refl, (last-clock b t c ok, λ u e k. absurd (let z : None ≡ Some u = sym sa.0 ∙ e in cc)))
    row-blocks b h _ _ ok sa c = tt

    -- the turn
    abbrev BlockedAt : Stage → Desk → Type 0
    BlockedAt st d = Blocked st d.heard (state script me run acts d)

    noted : (st : Stage) (ever : List Post) (d : Desk) (f : Effect) → Good script me run acts ever (state script me run acts d) f →
        Blocked st d.heard (enter f (state script me run acts d)) → BlockedAt st (note f d)
    unfolding book
    noted st ever d f g k =
        let s : state script me run acts (note f d) ≡ enter f (state script me run acts d) = ap (λ l. book l) (note-state script me run acts ever d f g) in
        subst (λ b. Blocked st d.heard b) (sym s) k

    blocked-if : (st : Stage) (next : Desk → Desk) → ((d : Desk) → BlockedAt st d → BlockedAt st (next d)) → (d : Desk) (o : Option Effect) →
        OwedOk script me run acts [] (state script me run acts d) o → BlockedAt st d → BlockedAt st (note_if next o d)
    blocked-if st next step d None g k = k
    blocked-if st next step d (Some f) g k = step (note f d) (noted st [] d f g (blocked-kept st d.heard (state script me run acts d) f g.fits k))

    settle-blocked : (st : Stage) (n : ℕ) (d : Desk) → BlockedAt st d → BlockedAt st (settle_up script me run acts n d)
    unfolding settle_up
    settle-blocked st zero d k = k
    settle-blocked st (suc n) d k = blocked-if st (settle_up script me run acts n) (λ x y. settle-blocked st n x y) d _ (owed-ok script me run acts [] (state script me run acts d) d.heard) k

    send-blocked : (st : Stage) (d : Desk) (o : Option Out) → BlockedAt st d → BlockedAt st (send o d)
    send-blocked st d None k = k
    send-blocked st d (Some o) k = k

    said : (st : Stage) (d : Desk) → BlockedAt st d → BlockedAt st (say script me run acts (settle_up script me run acts (fuel acts) d))
    said st d k = send-blocked st (settle_up script me run acts (fuel acts) d) _ (settle-blocked st (fuel acts) d k)

    reply-blocked : (st : Stage) (ever : List Post) (d : Desk) (r : Reply) → (r ≡ Ignored → ⊥) → RowBlocks st d.heard (state script me run acts d) r →
        ReplyOk script me run acts ever (state script me run acts d) r → BlockedAt st (reply script me run acts d r)
    reply-blocked st ever d Ignored n k g = absurd (n refl)
    reply-blocked st ever d (Hears h) n k g = said st (hears h d) k
    reply-blocked st ever d (Adds f) n k g = said st (note f d) (noted st ever d f g k)

    alone : NodeId → Message → List Post
    alone from m = record { from = from; to = broker me; message = m } ∷ []

    -- what stands after a message that was heard is new
    pub new-request : (ever : List Post) (d : Desk) (from : NodeId) (m : Message) → TurnHolds script me run acts ever d →
        (row script (stage script run (state script me run acts d) d.heard) d.heard (news m) ≡ Ignored → ⊥) →
        (o : Out) → standing (stage script run (state script me run acts d) d.heard) ≡ Some o →
        standing (stage script run (state script me run acts (desk_turn script me run acts d (Take from m))) (desk_turn script me run acts d (Take from m)).heard) ≡ Some o → ⊥
    unfolding alone
    new-request ever d from m k n o e w =
        let b : Book = state script me run acts d in
        let tidy : IsTidy script me (all_effects d) = grown script me d.past d.added k.desk.tidy k.desk.grew in
        let c : Clocks me b = subst (λ l. Clocks me (book l)) (sym (kept script me run acts (all_effects d) tidy k.ready.same_plan)) (clocks script me (all_effects d) tidy) in
        let st : Stage = stage script run b d.heard in
        let x : Desk = desk_turn script me run acts d (Take from m) in
        let g : ReplyOk script me run acts (alone from m) b (row script st d.heard (news m)) =
        row-ok script me run acts (alone from m) b st d.heard (news m) (stage-ok script me run acts b d.heard)
        (news-came script me run acts (alone from m) m (from, inl refl)) in
        let bl : BlockedAt st x =
        reply-blocked st (alone from m) d (row script st d.heard (news m)) n
        (row-blocks b d.heard st (news m) (stage-ok script me run acts b d.heard) (says b d.heard) c) g in
        blocked-new st x.heard (state script me run acts x) (stage script run (state script me run acts x) x.heard)
        (stage-ok script me run acts (state script me run acts x) x.heard) (says (state script me run acts x) x.heard) bl o e w
