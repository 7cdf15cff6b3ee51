-- Of nodes at rest every broker is done: a read waits for a smaller stamp alone, so the broker of the least stamp that is waited for would have an answer due.
use Rattle.complete_law.proofs.Names.{Every, Has, StampParts, TimeParts, same_stamp, stamp_lt, lt, same_stamp-is, same_stamp-self, ObjectId, Outcome, Out, ToRead, ToWrite, Stop, Asks, Over, Tree, HeldRead, waits_for, InRange, Heard, Act, Book, Try, book, tries, tries_of, find, front, last_try, open_try, open_of, open_front, time_of, is_none, stop_of, Stage, Idle, Refused, Opening, Asking, Finishing, Closing, by_stop, by_last, of_open, stage_of, stage, standing, is_asking, is_closed, no_answer, repository, owed, by_stage, Task, is_stamp, is_time, desk_at, state, kept, each-found, StageOk, stage-ok, if-open, Waits, DecidedAt, standing_at, is_done, read_to, AtRest, ◌≡◌, ◌≢◌, ◌⊎◌, ℕ, nat_lt, Bool, true, false, ◌&&◌, ◌||◌, List, [], ◌∷◌, ◌++◌, refl, sym, ◌∙◌, ap, subst, Option, Some, None, if◌then◌else◌, inl, inr, false≢true, eq-eqb, or_right, lt-own}
use Rattle.value_form.specs.declared.endings.Ending.TheVariants as ending
use Rattle.effect_form.specs.declared.effects.Effect.TheVariants as effect
use Rattle.message_form.specs.declared.messages.Message.TheVariants as message
use Rattle.broker_core.specs.Stages.{is_settled}
use Rattle.broker_laws.proofs.LastTry.{last-is-open}
use Rattle.broker_laws.proofs.Done.{rested-done}
use Rattle.complete_law.proofs.Descents.{Below, below, never}
use Rattle.complete_law.proofs.Ranges.{same-run}

-- ---- tries

-- the undone try is the last one
open-last : (as' : List Act) (t : Try) → open_of as' ≡ Some t → front (tries_of as') ≡ Some t
open-last [] t e = cc
open-last (a ∷ as') t e = (elim a.tries as (λ ts. open_front ts ≡ Some t → front (ts ++ tries_of as') ≡ Some t) [ [] ↦ λ e. cc | x ∷ ts ↦ λ e. ap (λ y. Some y) (if-open x x.end t e).0 ]) e

every-unit : (ts : List Try) → Every (λ (t : Try). Unit {0}) ts
every-unit [] = tt
every-unit (t ∷ ts) = (tt, every-unit ts)

-- ---- held reads

waiting : (es : List (TimeParts × HeldRead)) (e : TimeParts × HeldRead) → Has e es → waits_for e.1.waits es ≡ true
waiting [] e h = absurd h
waiting (x ∷ es) e (inl p) = subst (λ (y : TimeParts × HeldRead). (same_stamp y.1.waits e.1.waits || waits_for e.1.waits es) ≡ true) (sym p) (rw (same_stamp-self e.1.waits) refl)
waiting (x ∷ es) e (inr h) = or_right (same_stamp x.1.waits e.1.waits) (waits_for e.1.waits es) (waiting es e h)

same-message : (a b : Out) → Some a ≡ Some b → a.message ≡ b.message
same-message a b e = let k : a ≡ b = cc e in ap (λ (z : Out). z.message) k

-- ---- one broker at rest

module _ (script : List ℕ → Tree) (me run : ℕ) (acts : List Task) where
  -- where nothing is owed the run has begun
  began : (b : Book) (h : Heard) → owed script me run acts b h ≡ None → (nat_lt b.run run ≡ false) × (by_stage me acts h b (stage script run b h) ≡ None)
  began b h w = go (nat_lt b.run run) refl w
    where
      go : (c : Bool) → nat_lt b.run run ≡ c → (if c then Some (effect.Run run) else by_stage me acts h b (stage script run b h)) ≡ None →
          (nat_lt b.run run ≡ false) × (by_stage me acts h b (stage script run b h) ≡ None)
      go true e w = cc
      go false e w = (e, w)

  abbrev Sends : Stage → Type 0
  Sends st = (out : Out) × (standing st ≡ Some out)

  -- an undone try has its request, or its End is owed
  by-stop-sends : (b : Book) (h : Heard) (t : Try) (s : Stop) → by_stage me acts h b (by_stop t s) ≡ None → Sends (by_stop t s)
  by-stop-sends b h t (Asks (ToRead o)) w = (record { to = repository o.repository; message = message.Read (time_of t) o }, refl)
  by-stop-sends b h t (Asks (ToWrite o v)) w = (record { to = repository o.repository; message = message.Write (time_of t) o v }, refl)
  by-stop-sends b h t (Over ending.Finished) w = (record { to = repository t.stamp.home; message = message.Commit t.stamp }, refl)
  by-stop-sends b h t (Over _) w = cc

  open-sends : (b : Book) (h : Heard) (t : Try) → by_stage me acts h b (of_open script h t) ≡ None → Sends (of_open script h t)
  open-sends b h t w = first (is_asking (stop_of script t) && is_time h.ended (time_of t)) w
    where
      second : (c : Bool) → by_stage me acts h b (if c then Opening t else by_stop t (stop_of script t)) ≡ None → Sends (if c then Opening t else by_stop t (stop_of script t))
      second true w = (record { to = repository t.stamp.home; message = message.Begin t.stamp t.task.timeout }, refl)
      second false w = by-stop-sends b h t (stop_of script t) w

      first : (c : Bool) → by_stage me acts h b (if c then Refused t else (if no_answer t && (if is_stamp h.begun t.stamp then false else true) then Opening t else by_stop t (stop_of script t))) ≡ None →
          Sends (if c then Refused t else (if no_answer t && (if is_stamp h.begun t.stamp then false else true) then Opening t else by_stop t (stop_of script t)))
      first true w = (record { to = repository t.stamp.home; message = message.Withdraw t.stamp }, refl)
      first false w = second (no_answer t && (if is_stamp h.begun t.stamp then false else true)) w

  -- the last try, which isn't closed, has a request
  last-sends : (b : Book) (h : Heard) (t : Try) → last_try b ≡ Some t → (t.end ≡ None → open_try b ≡ Some t) → (is_closed h t ≡ true → ⊥) →
      by_stage me acts h b (stage_of script h (open_try b) (last_try b)) ≡ None → Sends (stage_of script h (open_try b) (last_try b))
  last-sends b h t last opens closed w = by-open (open_try b) refl w
    where
      ending-of : (c : Option Outcome) (k : Bool) → t.end ≡ c → is_closed h t ≡ k → open_try b ≡ None → Sends (if is_none c || k then Idle else Closing t)
      ending-of None k e f n = let no : None ≡ Some t = sym n ∙ opens e in cc
      ending-of (Some o) true e f n = absurd (closed f)
      ending-of (Some o) false e f n = (record { to = repository t.stamp.home; message = message.Withdraw t.stamp }, refl)

      by-open : (o : Option Try) → open_try b ≡ o → by_stage me acts h b (stage_of script h o (last_try b)) ≡ None → Sends (stage_of script h o (last_try b))
      by-open (Some u) e w = open-sends b h u w
      by-open None e w = subst (λ l. Sends (by_last h l)) (sym last) (ending-of t.end (is_closed h t) refl refl e)

  -- the read that stands is that of the undone try
  read-stage : (b : Book) (st : Stage) (x : TimeParts) (o : ObjectId) → StageOk script me run acts b st → standing st ≡ Some (read_to x o) → (t : Try) × (open_try b ≡ Some t) × (x ≡ time_of t)
  read-stage b (Refused t) x o ok e = let m : message.Withdraw t.stamp ≡ message.Read x o = same-message _ _ e in absurd (cc m)
  read-stage b (Opening t) x o ok e = let m : message.Begin t.stamp t.task.timeout ≡ message.Read x o = same-message _ _ e in absurd (cc m)
  read-stage b (Asking t (ToRead p)) x o ok e =
      let m : message.Read (time_of t) p ≡ message.Read x o = same-message _ _ e in
      let k : time_of t ≡ x = cc m in
      (t, ok.0, sym k)
  read-stage b (Asking t (ToWrite p v)) x o ok e = let m : message.Write (time_of t) p v ≡ message.Read x o = same-message _ _ e in absurd (cc m)
  read-stage b (Finishing t) x o ok e = let m : message.Commit t.stamp ≡ message.Read x o = same-message _ _ e in absurd (cc m)
  read-stage b (Closing t) x o ok e = let m : message.Withdraw t.stamp ≡ message.Read x o = same-message _ _ e in absurd (cc m)
  read-stage b _ x o ok e = absurd (cc e)

-- ---- all

module _ (script : List ℕ → Tree) (run : ℕ) (acts : ℕ → List Task) (most : ℕ) (k : AtRest script run acts most) where
  abbrev In : ℕ → Type 0
  In b = InRange most b

  abbrev at : ℕ → Option Out
  at b = standing_at script b run (acts b) (k.brokers b) (k.heard b)

  abbrev counted : ℕ → Book
  counted b = state script b run (acts b) (desk_at (k.brokers b) (k.heard b))

  counts : (b : ℕ) → In b → counted b ≡ book (k.brokers b)
  counts b i = ap book (kept script b run (acts b) (k.brokers b) (k.turns b i).desk.tidy (k.turns b i).ready.same_plan)

  -- a broker stands at a read of an attempt with this stamp
  abbrev Stuck : StampParts → Type 0
  Stuck s = (b : ℕ) × (x : TimeParts) × (o : ObjectId) × In b × (at b ≡ Some (read_to x o)) × (x.stamp ≡ s)

  -- one whose last try isn't decided stands at a read of it
  waits-too : (b : ℕ) (t : Try) → In b → last_try (book (k.brokers b)) ≡ Some t → (DecidedAt k.homes t.stamp → ⊥) → Stuck t.stamp
  waits-too b t i last undone =
      let last' : last_try (counted b) ≡ Some t = subst (λ z. last_try z ≡ Some t) (sym (counts b i)) last in
      let rest = began script b run (acts b) (counted b) (k.heard b) (k.rested b i) in
      let same : (counted b).run ≡ run = same-run (counted b).run run rest.0 (k.turns b i).ready.not_old in
      let in-run : stage script run (counted b) (k.heard b) ≡ stage_of script (k.heard b) (open_try (counted b)) (last_try (counted b)) =
      ap (λ c. if c then stage_of script (k.heard b) (open_try (counted b)) (last_try (counted b)) else Idle) (eq-eqb (counted b).run run same) in
      let s = last-sends script b run (acts b) (counted b) (k.heard b) t last' (λ n. last-is-open script b run (acts b) (k.brokers b) t same last' n) (λ c. undone (closed-decided c))
      (subst (λ z. by_stage b (acts b) (k.heard b) (counted b) z ≡ None) in-run rest.1) in
      let stands : at b ≡ Some s.0 = ap standing in-run ∙ s.1 in
      let r = k.reads b s.0 i stands in
      let read : at b ≡ Some (read_to r.0 r.1.object) = stands ∙ ap (λ z. Some z) r.2 in
      let g = read-stage script b run (acts b) (counted b) (stage script run (counted b) (k.heard b)) r.0 r.1.object (stage-ok script b run (acts b) (counted b) (k.heard b)) read in
      let u : Some g.0 ≡ Some t = sym (open-last (counted b).acts g.0 g.1) ∙ last' in
      let v : g.0 ≡ t = cc u in
      (b, r.0, r.1.object, i, read, ap (λ (z : TimeParts). z.stamp) g.2 ∙ ap (λ (z : Try). z.stamp) v)
    where
      closed-decided : is_closed (k.heard b) t ≡ true → DecidedAt k.homes t.stamp
      closed-decided c = by-end (is_none t.end) c
        where
          heard-it : (h : Option StampParts) → (k.heard b).closed ≡ h → is_stamp h t.stamp ≡ true → DecidedAt k.homes t.stamp
          heard-it None e s = absurd (false≢true s)
          heard-it (Some x) e s = k.closed b t.stamp i (e ∙ ap (λ z. Some z) (same_stamp-is x t.stamp s))

          by-end : (n : Bool) → (if n then false else (is_settled t.end || is_stamp (k.heard b).closed t.stamp)) ≡ true → DecidedAt k.homes t.stamp
          by-end true s = absurd (false≢true s)
          by-end false s = (elim (is_settled t.end) as (λ c. is_settled t.end ≡ c → (c || is_stamp (k.heard b).closed t.stamp) ≡ true → DecidedAt k.homes t.stamp) [ true ↦ λ e s. k.settled b t i last e | false ↦ λ e s. heard-it (k.heard b).closed refl s ]) refl s

  down : (s : StampParts) → Stuck s → (u : StampParts) × Stuck u × Below u s
  down s (b, x, o, i, stands, of-s) =
      let r = k.reads b (read_to x o) i stands in
      let same-read : message.Read r.0 r.1.object ≡ message.Read x o = ap (λ (z : Out). z.message) (sym r.2) in
      let same-x : r.0 ≡ x = cc same-read in
      let e : TimeParts × HeldRead = (r.0, r.1) in
      let w : Waits (k.homes r.1.object.repository) e = k.waits r.1.object.repository e r.3 in
      let writer = k.writers w.start.stamp.broker (repository r.1.object.repository) w.start r.1.object w.value (k.puts r.1.object.repository r.1.object w.start w.value w.put).0 in
      let t : Try = writer.1.0 in
      let found : find w.start.stamp (tries (book (k.brokers w.start.stamp.broker))) ≡ Some t = writer.1.1 in
      let stamp-is : t.stamp ≡ w.start.stamp = (each-found (λ y. Unit {0}) w.start.stamp (tries (book (k.brokers w.start.stamp.broker))) t found (every-unit (tries (book (k.brokers w.start.stamp.broker))))).1 in
      let undone : DecidedAt k.homes w.start.stamp → ⊥ = λ d. k.undecided r.1.object.repository w.start.stamp
      (subst (λ z. waits_for z (k.held r.1.object.repository) ≡ true) (sym w.own) (waiting (k.held r.1.object.repository) e r.3)) d in
      let less : stamp_lt w.start.stamp r.0.stamp ≡ true = first (stamp_lt w.start.stamp r.0.stamp) w.start r.0 refl w.below w.other in
      (w.start.stamp, stuck t writer.0 found stamp-is undone, below w.start.stamp s (subst (λ z. stamp_lt w.start.stamp z ≡ true) (ap (λ (z : TimeParts). z.stamp) same-x ∙ of-s) less))
    where
      first : (c : Bool) (y z : TimeParts) → stamp_lt y.stamp z.stamp ≡ c → lt y z ≡ true → y.stamp ≢ z.stamp → stamp_lt y.stamp z.stamp ≡ true
      first true y z e l n = e
      first false y z e l n = absurd (n (lt-own y z l e))

      stuck : {q : StampParts} (t : Try) → In q.broker → find q (tries (book (k.brokers q.broker))) ≡ Some t → t.stamp ≡ q → (DecidedAt k.homes q → ⊥) → Stuck q
      stuck {q} t i found e undone = go (k.earlier q.broker q t i found)
        where
          go : (last_try (book (k.brokers q.broker)) ≡ Some t) ⊎ DecidedAt k.homes q → Stuck q
          go (inl last) = subst Stuck e (waits-too q.broker t i last (λ d. undone (subst (DecidedAt k.homes) e d)))
          go (inr d) = absurd (undone d)

  -- every broker is done
  pub all-done : (b : ℕ) → In b → is_done script b run (acts b) (k.brokers b) (k.heard b) ≡ true
  all-done b i = rested-done script b run (acts b) k.ever (desk_at (k.brokers b) (k.heard b)) (k.turns b i) (k.rested b i) (go (at b) refl)
    where
      go : (o : Option Out) → at b ≡ o → at b ≡ None
      go None e = e
      go (Some out) e = let r = k.reads b out i e in absurd (never Stuck down r.0.stamp (b, r.0, r.1.object, i, e ∙ ap (λ z. Some z) r.2, refl))
