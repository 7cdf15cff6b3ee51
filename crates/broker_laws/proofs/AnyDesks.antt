-- A turn over any log adds what counts, each with its cause, and says what holds of the tries of its run.
use Rattle.broker_laws.proofs.Names.{Every, StampParts, NodeId, every-append, same_stamp-self, Effect, Outcome, Message, Out, Grew, Post, Got, Stored, Tree, Task, Act, Book, Try, book, close, enter, find, finish, gain, new_try, on_act, on_front, on_try, tries_of, add_if, counts, fits_try, keep, by_stage, owed, News, news, row, Idle, stage, stage_of, standing, open_try, last_try, Desk, Go, Hear, Input, Take, desk_turn, fuel, hears, note, note_if, reply, say, send, settle_up, state, all_effects, Heard, Reply, Adds, Hears, Ignored, EndFits, FitsBook, IsBelow, IsLater, PostHolds, MayInput, ◌≡◌, ℕ, zero, suc, ◌≤◌, ◌<◌, max, nat_lt, ◌==◌, Bool, true, false, List, [], ◌∷◌, ◌++◌, refl, sym, ◌∙◌, ap, subst, Option, Some, None, if◌then◌else◌, arith, append-nil, append_assoc, eqb-true, common_steps, every-map}
use Rattle.effect_form.specs.declared.effects.Effect.TheVariants as effect
use Rattle.effect_form.specs.declared.outcomes.Outcome.TheVariants as outcome
use Rattle.broker_core.specs.Counted.{counted, own_tries}
use Rattle.broker_laws.specs.AnyLogs.{InRun, Joins, Says, GoesOn}
use Rattle.broker_laws.proofs.Desks.{Good, OwedOk, PostOk, ReplyOk, news-came, note-state, owed-ok, row-ok, stage-ok, standing-ok}
use Rattle.broker_laws.proofs.Moves.{Moved, at-open, later, moved, post-moved}
use Rattle.broker_laws.proofs.TestLemmas.{and-left, and-right}

module _ (script : List ℕ → Tree) (me run : ℕ) (acts : List Task) where
  -- ---- the clocks of this run's tries

  if-true : (c x : Bool) → c ≡ true → (if c then x else true) ≡ true → x ≡ true
  if-true true x h k = k
  if-true false x h k = absurd (cc h)

  is-one : (a b : ℕ) → a ≡ b → (a == b) ≡ true
  is-one a b h = grind (h, arith, common_steps)

  restamped : (g : Try → Try) → ((t : Try) → (g t).stamp ≡ t.stamp) → (c : ℕ) (as' : List Act) → Every (IsBelow me c) (tries_of as') → Every (IsBelow me c) (tries_of (on_try g as'))
  restamped g same c [] h = tt
  restamped g same c (a ∷ as') h = front a.tries h
    where
      front : (ts : List Try) → Every (IsBelow me c) (ts ++ tries_of as') → Every (IsBelow me c) (on_front g ts ++ tries_of as')
      front [] h = h
      front (t ∷ ts) h = (subst (λ (s : StampParts). (s.clock ≤ c) × (s.broker ≡ me)) (sym (same t)) h.0, h.1)

  spent-same : (o : ℕ) (c : ℕ) (as' : List Act) → Every (IsBelow me c) (tries_of as') → Every (IsBelow me c) (tries_of (on_act (λ a. record a { spent = Some o }) as'))
  spent-same o c [] h = h
  spent-same o c (a ∷ as') h = h

  tried-above : (i : ℕ) (s : StampParts) (c : ℕ) (as' : List Act) → fits_try me i s c as' ≡ true → Every (IsBelow me c) (tries_of as') →
      Every (IsBelow me (max c s.clock)) (tries_of (on_act (λ a. record a { tries = new_try a s ∷ a.tries }) as'))
  tried-above i s c [] h all = absurd (cc h)
  tried-above i s c (a ∷ as') h all = (
    (omega arith, eqb-true s.broker me (and-left (s.broker == me) _ (and-right (i == a.task.index) _ h))),
    every-map (IsBelow me c) (IsBelow me (max c s.clock)) (λ t k. (let n = k.0 in omega (arith, n), k.1)) (a.tries ++ tries_of as') all,
  )

  closed-below : (o : Outcome) (b : Book) → Every (IsBelow me b.clock) (tries_of b.acts) → Every (IsBelow me (close o b).clock) (tries_of (close o b).acts)
  closed-below (outcome.Spent c) b h = spent-same c b.clock b.acts h
  closed-below o b h = restamped (finish o) (λ t. refl) b.clock b.acts h

  close-run : (o : Outcome) (b : Book) → (close o b).run ≡ b.run
  close-run outcome.Committed b = refl
  close-run o b = refl

  abbrev Own : Book → Type 0
  Own b = b.run ≡ run → Every (IsBelow me b.clock) (tries_of b.acts)

  entered-below : (b : Book) (f : Effect) → counts script me run acts b f ≡ true → Own b → Own (enter f b)
  entered-below b (effect.Run n) e h r = tt
  entered-below b (effect.Act i x t k c y) e h r = h r
  entered-below b (effect.Try i s) e h r = tried-above i s b.clock b.acts (if-true (b.run == run) (fits_try me i s b.clock b.acts) (is-one b.run run r) e) (h r)
  entered-below b (effect.Got k v) e h r = restamped (gain (Got v)) (λ t. refl) b.clock b.acts (h r)
  entered-below b (effect.Acked k) e h r = restamped (gain Stored) (λ t. refl) b.clock b.acts (h r)
  entered-below b (effect.End i o) e h r = closed-below o b (h (sym (close-run o b) ∙ r))
  entered-below b f e h r = h r

  -- each stamp of this run is the broker's own, and none is above its clock: over every log
  pub own-clocks : (log : List Effect) → Own (counted script me run acts log)
  unfolding keep book
  own-clocks [] = λ r. tt
  own-clocks (f ∷ log) = go (own-clocks log) (counts script me run acts (counted script me run acts log) f) refl
    where
      go : Own (counted script me run acts log) → (c : Bool) → counts script me run acts (counted script me run acts log) f ≡ c → Own (book (add_if c f (keep script me run acts log)))
      go below true e = entered-below (counted script me run acts log) f e below
      go below false e = below

  -- ---- one effect more

  -- the book without the runs before
  abbrev alone : Book → Book
  alone b = record { run = b.run; clock = b.clock; shown = b.shown; acts = b.acts; past = [] }

  end-alone : (i : ℕ) (o : Outcome) (b : Book) → EndFits script i o b → EndFits script i o (alone b)
  end-alone i outcome.Committed b h = h
  end-alone i o b h = h

  packed : (xs ys : List Act) → Moved script (tries_of (xs ++ [])) (tries_of (ys ++ [])) → Moved script (tries_of xs) (tries_of ys)
  packed xs ys m = subst (λ zs. Moved script (tries_of zs) (tries_of ys)) (append-nil xs) (subst (λ zs. Moved script (tries_of (xs ++ [])) (tries_of zs)) (append-nil ys) m)

  end-moved : (i : ℕ) (o : Outcome) (b : Book) → Every (IsBelow me b.clock) (tries_of (b.acts ++ [])) → EndFits script i o b → Moved script (tries_of b.acts) (tries_of (close o b).acts)
  end-moved i outcome.Committed b c h = packed b.acts (close outcome.Committed b).acts (moved script me (alone b) (effect.End i outcome.Committed) c h)
  end-moved i o b c h = packed b.acts (close o b).acts (moved script me (alone b) (effect.End i o) c h)

  own-moved : (b : Book) (f : Effect) → Every (IsBelow me b.clock) (tries_of b.acts) → FitsBook script me b f → (enter f b).run ≡ b.run → Moved script (tries_of b.acts) (tries_of (enter f b).acts)
  own-moved b f c h same = go f h same
    where
      wide : Every (IsBelow me b.clock) (tries_of (b.acts ++ []))
      wide = subst (λ zs. Every (IsBelow me b.clock) (tries_of zs)) (sym (append-nil b.acts)) c

      go : (f : Effect) → FitsBook script me b f → (enter f b).run ≡ b.run → Moved script (tries_of b.acts) (tries_of (enter f b).acts)
      go (effect.Run n) h same = absurd (let k : b.run < n = h in let e : n ≡ b.run = same in omega (arith, k, e))
      go (effect.Act i x t k c y) h same = packed b.acts (enter (effect.Act i x t k c y) b).acts (moved script me (alone b) (effect.Act i x t k c y) wide h)
      go (effect.Try i s) h same = packed b.acts (enter (effect.Try i s) b).acts (moved script me (alone b) (effect.Try i s) wide h)
      go (effect.Got k v) h same = packed b.acts (enter (effect.Got k v) b).acts (moved script me (alone b) (effect.Got k v) wide h)
      go (effect.Acked k) h same = packed b.acts (enter (effect.Acked k) b).acts (moved script me (alone b) (effect.Acked k) wide h)
      go (effect.End i o) h same = end-moved i o b wide h
      go f h same = absurd h

  not-above : (r n : ℕ) → r < n → nat_lt r n ≡ false → ⊥
  not-above r n h k = grind (h, k, arith, common_steps)

  not-below : (r : ℕ) → nat_lt r r ≡ false
  not-below r = grind (arith, common_steps)

  -- in this run no other run begins
  run-stays : (b : Book) (f : Effect) → b.run ≡ run → FitsBook script me b f → (nat_lt run b.run ≡ false → nat_lt run (enter f b).run ≡ false) → (enter f b).run ≡ b.run
  run-stays b (effect.Run n) r h later = absurd (not-above run n (subst (λ z. z < n) r h) (later (subst (λ z. nat_lt run z ≡ false) (sym r) (not-below run))))
  run-stays b (effect.Act i x t k c y) r h later = refl
  run-stays b (effect.Try i s) r h later = refl
  run-stays b (effect.Got k v) r h later = refl
  run-stays b (effect.Acked k) r h later = refl
  run-stays b (effect.End i o) r h later = close-run o b
  run-stays b f r h later = refl

  pub enters : (log : List Effect) (f : Effect) → Joins script me run acts log f → counted script me run acts (f ∷ log) ≡ enter f (counted script me run acts log)
  unfolding book
  enters log f j = ap book j.counts

  -- what was said stays true as the log grows by what counts
  pub says-on : (log : List Effect) (f : Effect) (to : NodeId) (m : Message) → Joins script me run acts log f → Says script me run acts log to m → Says script me run acts (f ∷ log) to m
  says-on log f to m j s =
      let b : Book = counted script me run acts log in
      let stays : (enter f b).run ≡ b.run = run-stays b f s.run_is j.fits j.not_later in
      record {
        run_is = ap (λ (z : Book). z.run) (enters log f j) ∙ stays ∙ s.run_is;
        holds = subst (λ (z : Book). PostHolds script me (tries_of z.acts) to m) (sym (enters log f j))
            (post-moved script me (own-moved b f (own-clocks log s.run_is) j.fits stays) to m s.holds);
      }

  -- and a try stays the same try
  later-on : (log : List Effect) (f : Effect) (s : StampParts) (t : Try) → Joins script me run acts log f → (counted script me run acts log).run ≡ run → find s (own_tries script me run acts log) ≡ Some t →
      ((counted script me run acts (f ∷ log)).run ≡ run) × ((u : Try) × (find s (own_tries script me run acts (f ∷ log)) ≡ Some u) × IsLater t u)
  later-on log f s t j r h =
      let b : Book = counted script me run acts log in
      let stays : (enter f b).run ≡ b.run = run-stays b f r j.fits j.not_later in
      let l = later script me (own-moved b f (own-clocks log r) j.fits stays) s t h in (
        ap (λ (z : Book). z.run) (enters log f j) ∙ stays ∙ r,
        (l.0, subst (λ (z : Book). find s (tries_of z.acts) ≡ Some l.0) (sym (enters log f j)) l.1, l.2),
      )

  -- the open try is found by its stamp
  pub open-own : (b : Book) (t : Try) → open_try b ≡ Some t → find t.stamp (tries_of b.acts) ≡ Some t
  open-own b t e = subst (λ zs. find t.stamp (tries_of zs) ≡ Some t) (append-nil b.acts) (subst (λ xs. find t.stamp xs ≡ Some t) (sym (at-open (λ x. x) b.acts [] t e).1) (rw (same_stamp-self t.stamp) refl))

  -- ---- a turn

  -- what stands is said rightly
  standing-says : (b : Book) (h : Heard) (o : Out) → Own b → standing (stage script run b h) ≡ Some o → (b.run ≡ run) × PostHolds script me (tries_of b.acts) o.to o.message
  standing-says b h o own e = go (b.run == run) refl e
    where
      right : b.run ≡ run → PostHolds script me (tries_of b.acts) o.to o.message
      right r =
          let p : PostOk script me run acts (tries_of (b.acts ++ [])) (standing (stage script run b h)) =
          standing-ok script me run acts (alone b) (subst (λ zs. Every (IsBelow me b.clock) (tries_of zs)) (sym (append-nil b.acts)) (own r)) (stage script run (alone b) h) (stage-ok script me run acts (alone b) h) in
          subst (λ zs. PostHolds script me (tries_of zs) o.to o.message) (append-nil b.acts) (subst (PostOk script me run acts (tries_of (b.acts ++ []))) e p)

      go : (c : Bool) → (b.run == run) ≡ c → standing (if c then stage_of script h (open_try b) (last_try b) else Idle) ≡ Some o → (b.run ≡ run) × PostHolds script me (tries_of b.acts) o.to o.message
      go true q k = (eqb-true b.run run q, right (eqb-true b.run run q))
      go false q k = absurd (cc k)

  -- what is owed, and what a message adds, is of this run
  in-run : (b : Book) (f : Effect) → nat_lt b.run run ≡ false → InRun script me run acts b f
  in-run b (effect.Run n) h = tt
  in-run b f h = h

  owed-in-run : (b : Book) (h : Heard) (f : Effect) → owed script me run acts b h ≡ Some f → InRun script me run acts b f
  owed-in-run b h f e = go (nat_lt b.run run) refl e
    where
      some-is : (x y : Effect) → Some x ≡ Some y → x ≡ y
      some-is x y e = cc e

      go : (c : Bool) → nat_lt b.run run ≡ c → (if c then Some (effect.Run run) else by_stage me acts h b (stage script run b h)) ≡ Some f → InRun script me run acts b f
      go true q k = subst (InRun script me run acts b) (some-is (effect.Run run) f k) tt
      go false q k = in-run b f q

  row-in-run : (b : Book) (h : Heard) (n : News) (f : Effect) → row script (stage script run b h) h n ≡ Adds f → InRun script me run acts b f
  row-in-run b h n f e = go (b.run == run) refl e
    where
      go : (c : Bool) → (b.run == run) ≡ c → row script (if c then stage_of script h (open_try b) (last_try b) else Idle) h n ≡ Adds f → InRun script me run acts b f
      go true q k = in-run b f (subst (λ z. nat_lt z run ≡ false) (sym (eqb-true b.run run q)) (not-below run))
      go false q k = absurd (cc k)

  module _ (ever : List Post) where
    abbrev On : Desk → Type 0
    On d = GoesOn script me run acts ever d

    note-on : (d : Desk) (f : Effect) → Good script me run acts ever (state script me run acts d) f → InRun script me run acts (state script me run acts d) f → On d → On (note f d)
    note-on d f g own k =
        let j : Joins script me run acts (all_effects d) f = record { counts = note-state script me run acts ever d f g; fits = g.fits; not_later = g.run_stays } in
        record {
          joins = (k.joins, j);
          rests = (k.rests, (g.fits, g.came, own));
          outs = every-map (λ o. Says script me run acts (all_effects d) o.to o.message) (λ o. Says script me run acts (f ∷ all_effects d) o.to o.message) (λ o s. says-on (all_effects d) f o.to o.message j s) d.outs k.outs;
        }

    note-if-on : (next : Desk → Desk) → ((d : Desk) → On d → On (next d)) → (d : Desk) (o : Option Effect) → OwedOk script me run acts ever (state script me run acts d) o →
        ((f : Effect) → o ≡ Some f → InRun script me run acts (state script me run acts d) f) → On d → On (note_if next o d)
    note-if-on next step d None g own k = k
    note-if-on next step d (Some f) g own k = step (note f d) (note-on d f g (own f refl) k)

    settle-on : (n : ℕ) (d : Desk) → On d → On (settle_up script me run acts n d)
    unfolding settle_up
    settle-on zero d k = k
    settle-on (suc n) d k = note-if-on (settle_up script me run acts n) (λ x y. settle-on n x y) d _ (owed-ok script me run acts ever (state script me run acts d) d.heard) (λ f e. owed-in-run (state script me run acts d) d.heard f e) k

    send-on : (d : Desk) (o : Option Out) → ((x : Out) → o ≡ Some x → Says script me run acts (all_effects d) x.to x.message) → On d → On (send o d)
    send-on d None h k = k
    send-on d (Some x) h k = record { joins = k.joins; rests = k.rests; outs = every-append (λ o. Says script me run acts (all_effects d) o.to o.message) d.outs (x ∷ []) k.outs (h x refl, tt) }

    say-on : (d : Desk) → On d → On (say script me run acts d)
    say-on d k = send-on d (standing (stage script run (state script me run acts d) d.heard))
        (λ x e. let p = standing-says (state script me run acts d) d.heard x (own-clocks (all_effects d)) e in record { run_is = p.0; holds = p.1 }) k

    hears-on : (d : Desk) (h : Heard) → On d → On (hears h d)
    hears-on d h k = record { joins = k.joins; rests = k.rests; outs = k.outs }

    reply-on : (d : Desk) (r : Reply) → ReplyOk script me run acts ever (state script me run acts d) r →
        ((f : Effect) → r ≡ Adds f → InRun script me run acts (state script me run acts d) f) → On d → On (reply script me run acts d r)
    reply-on d Ignored g own k = k
    reply-on d (Hears h) g own k = say-on (settle_up script me run acts (fuel acts) (hears h d)) (settle-on (fuel acts) (hears h d) (hears-on d h k))
    reply-on d (Adds f) g own k = say-on (settle_up script me run acts (fuel acts) (note f d)) (settle-on (fuel acts) (note f d) (note-on d f g (own f refl) k))

    pub turn-on : (d : Desk) (i : Input) → MayInput me ever i → On d → On (desk_turn script me run acts d i)
    turn-on d Go h k = say-on (settle_up script me run acts (fuel acts) (hears (record d.heard { gone = true }) d)) (settle-on (fuel acts) (hears (record d.heard { gone = true }) d) (hears-on d (record d.heard { gone = true }) k))
    turn-on d (Hear m) h k = say-on d k
    turn-on d (Take from m) h k =
        let b : Book = state script me run acts d in
        reply-on d (row script (stage script run b d.heard) d.heard (news m)) (row-ok script me run acts ever b (stage script run b d.heard) d.heard (news m)
        (stage-ok script me run acts b d.heard) (news-came script me run acts ever m (from, h))) (λ f e. row-in-run b d.heard (news m) f e) k

  -- a try stays the same try through any growth by what counts
  pub later-through : (log added : List Effect) (s : StampParts) (t : Try) → Grew (Joins script me run acts) log added → (counted script me run acts log).run ≡ run → find s (own_tries script me run acts log) ≡ Some t →
      ((counted script me run acts (added ++ log)).run ≡ run) × ((u : Try) × (find s (own_tries script me run acts (added ++ log)) ≡ Some u) × IsLater t u)
  later-through log [] s t g r h = (r, (t, h, record { task = refl; stamp = refl; answers = ([], sym (append-nil t.answers)); ended = λ o e. e }))
  later-through log (f ∷ added) s t g r h =
      let one = later-through log added s t g.0 r h in
      let two = later-on (added ++ log) f s one.1.0 g.1 one.0 one.1.1 in
      (two.0, (two.1.0, two.1.1, later-later t one.1.0 two.1.0 one.1.2 two.1.2))
    where
      later-later : (a b c : Try) → IsLater a b → IsLater b c → IsLater a c
      later-later a b c x y = record {
        task = y.task ∙ x.task;
        stamp = y.stamp ∙ x.stamp;
        answers = (x.answers.0 ++ y.answers.0, y.answers.1 ∙ ap (λ z. z ++ y.answers.0) x.answers.1 ∙ append_assoc a.answers x.answers.0 y.answers.0);
        ended = λ o e. y.ended o (x.ended o e);
      }
