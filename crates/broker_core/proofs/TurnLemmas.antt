-- What a turn of the ledger gives is what the rules give over its log.
use Rattle.broker_core.proofs.Names.{ActSpec, Effect, Tree, Given, Heard, Notes, tasks, Scripted, Book, book, enter, fits, counts, add_if, keep, owed, Desk, all_effects, note, note_if, state, settle_up, Shows, run_begun, noted, changed, Settled, kept, answers_noted, settle_on, settled, ◌≡◌, ℕ, zero, suc, ◌≤◌, ◌==◌, nat_lt, Bool, true, false, List, refl, sym, ap, subst, Option, Some, None, if◌then◌else◌, arith, common_steps, eqb-true, eq-eqb}
use Rattle.broker_ledger.specs.Effect.TheVariants as effect
use Rattle.broker_ledger.proofs.SoundLemmas.{sound-kept, here, closed-run}
use Rattle.broker_ledger.proofs.NotedLemmas.{noted-shows}
use Rattle.broker_ledger.proofs.MeetLemmas.{Knows, meets}
use Rattle.broker_core.proofs.AnyLemmas.{owed-any}
use Rattle.broker_core.proofs.GoodLemmas.{IsPlain, RunIs, Good, owed-good}

module _ (script : List ℕ → Tree) (me run : ℕ) (acts : List ActSpec) where
  -- an effect that counts is entered
  pub state-note : (d : Desk) (f : Effect) → counts script me run (tasks acts) (state script me run (tasks acts) d) f ≡ true →
      state script me run (tasks acts) (note f d) ≡ enter f (state script me run (tasks acts) d)
  unfolding keep book
  state-note d f c = ap (λ (x : Bool). book (add_if x f (keep script me run (tasks acts) (all_effects d)))) c

  -- ---- an effect that is owed

  plain-shows : (n : Notes) (raw : List Given) (b : Book) (f : Effect) → IsPlain f → Shows run (noted acts f n) (kept (noted acts f n) (answers_noted f n raw)) (enter f b) →
      Shows run (changed acts f n) (kept (changed acts f n) raw) (enter f b)
  plain-shows n raw b (effect.Run m) p s = s
  plain-shows n raw b (effect.Act i x t k c y) p s = s
  plain-shows n raw b (effect.Try i t) p s = s
  plain-shows n raw b (effect.Got k v) p s = absurd p
  plain-shows n raw b (effect.Acked k) p s = absurd p
  plain-shows n raw b f p s = s

  -- an effect that counts in this run fits
  fit-here : (b : Book) (f : Effect) → b.run ≡ run → IsPlain f → counts script me run (tasks acts) b f ≡ true → fits script me (tasks acts) b f ≡ true
  fit-here b (effect.Run m) r p c = c
  fit-here b (effect.Act i x t k c' y) r p c = here (b.run == run) _ (eq-eqb b.run run r) c
  fit-here b (effect.Try i t) r p c = here (b.run == run) _ (eq-eqb b.run run r) c
  fit-here b (effect.Got k v) r p c = absurd p
  fit-here b (effect.Acked k) r p c = absurd p
  fit-here b (effect.End i o) r p c = here (b.run == run) _ (eq-eqb b.run run r) c
  fit-here b f r p c = c

  at-most : (m n : ℕ) → m ≡ n → m ≤ n
  at-most m n e = omega arith

  still : (m n : ℕ) → m ≡ n → n ≤ run → m ≤ run
  still m n e l = omega arith

  pub not-later : (b : Book) (f : Effect) → b.run ≤ run → RunIs script me run (tasks acts) f → (enter f b).run ≤ run
  not-later b (effect.Run m) l r = at-most m run r
  not-later b (effect.Act i x t k c y) l r = l
  not-later b (effect.Try i t) l r = l
  not-later b (effect.Got k v) l r = l
  not-later b (effect.Acked k) l r = l
  not-later b (effect.End i o) l r = still (enter (effect.End i o) b).run b.run (closed-run o b) l
  not-later b f l r = l

  begins-late : (m : ℕ) → m ≤ run → (m == run) ≡ false → nat_lt m run ≡ true
  begins-late m h e = grind (arith, common_steps)

  begun-shows : (n : Notes) (raw : List Given) (b : Book) → Shows run n (kept n raw) b → Shows run (run_begun run n) (kept (run_begun run n) raw) (enter (effect.Run run) b)
  begun-shows n raw b s = record {
    run_is = refl;
    clock_is = s.clock_is;
    notes_are = λ r. ap (λ (c : ℕ). record { run = run; clock = c; shown = 0; started = 0; over_before = true; spent = false; tries = 0; last = None }) s.clock_is;
    answers_are = λ r. refl;
  }

  owed-shows : (n : Notes) (raw : List Given) (b : Book) (h : Heard) (f : Effect) (c : Bool) → Knows script run acts n (kept n raw) b → b.run ≤ run → (b.run == run) ≡ c →
      owed script me run (tasks acts) b h ≡ Some f → Good script me run (tasks acts) b (Some f) → Shows run (changed acts f n) (kept (changed acts f n) raw) (enter f b)
  owed-shows n raw b h f true k l e o g =
      let r : b.run ≡ run = eqb-true b.run run e in
      plain-shows n raw b f g.1 (noted-shows script me run acts n raw b f (meets script run acts n (kept n raw) b k r) (fit-here b f r g.1 g.0))
  owed-shows n raw b h f false k l e o g =
      let q : effect.Run run ≡ f = first (nat_lt b.run run) _ f (begins-late b.run l e) o in
      subst (λ (x : Effect). Shows run (changed acts x n) (kept (changed acts x n) raw) (enter x b)) q (begun-shows n raw b k.shows)
    where
      first : (c : Bool) (x : Option Effect) (f : Effect) → c ≡ true → (if c then Some (effect.Run run) else x) ≡ Some f → effect.Run run ≡ f
      first true x f p q = cc
      first false x f p q = cc

  -- ---- all effects that are owed

  -- the ledger has these notes and answers where the desk has its log
  pub record At (n : Notes) (raw : List Given) (d : Desk) : Type 0 where
    pub shows : Shows run n (kept n raw) (state script me run (tasks acts) d)
    pub not_old : (state script me run (tasks acts) d).run ≤ run

  pub record Led (s : Settled) (raw : List Given) (d e : Desk) : Type 0 where
    pub added : e.added ≡ s.0
    pub past : e.past ≡ d.past
    pub outs : e.outs ≡ d.outs
    pub heard : e.heard ≡ d.heard
    pub at : At s.1 raw e

  pub knows : Scripted script acts → (n : Notes) (raw : List Given) (d : Desk) → At n raw d → Knows script run acts n (kept n raw) (state script me run (tasks acts) d)
  knows m n raw d a = record { scripted = m; sound = sound-kept script me run (tasks acts) (all_effects d); shows = a.shows }

  after-owed : Scripted script acts → (n : Notes) (raw : List Given) (d : Desk) (f : Effect) → At n raw d → owed script me run (tasks acts) (state script me run (tasks acts) d) d.heard ≡ Some f → At (changed acts f n) raw (note f d)
  after-owed m n raw d f a o =
      let b : Book = state script me run (tasks acts) d in
      let g : Good script me run (tasks acts) b (Some f) = subst (Good script me run (tasks acts) b) o (owed-good script me run (tasks acts) b d.heard) in
      let e : state script me run (tasks acts) (note f d) ≡ enter f b = state-note d f g.0 in
      record {
        shows = subst (Shows run (changed acts f n) (kept (changed acts f n) raw)) (sym e) (owed-shows n raw b d.heard f (b.run == run) (knows m n raw d a) a.not_old refl o g);
        not_old = subst (λ (x : Book). x.run ≤ run) (sym e) (not-later b f a.not_old g.2);
      }

  same-run : (n : Notes) (raw : List Given) (d : Desk) → At n raw d → n.run ≤ run
  same-run n raw d a = still n.run (state script me run (tasks acts) d).run a.shows.run_is a.not_old

  settle-step : Scripted script acts → (k : ℕ) (n : Notes) (raw : List Given) (d : Desk) →
      ((n' : Notes) (d' : Desk) → At n' raw d' → Led (settled me run acts raw d'.heard k d'.added n') raw d' (settle_up script me run (tasks acts) k d')) →
      At n raw d → (o : Option Effect) → owed script me run (tasks acts) (state script me run (tasks acts) d) d.heard ≡ o →
      Led (settle_on me run acts raw d.heard (settled me run acts raw d.heard k) o d.added n) raw d (note_if (settle_up script me run (tasks acts) k) o d)
  settle-step m k n raw d next a None e = record { added = refl; past = refl; outs = refl; heard = refl; at = a }
  settle-step m k n raw d next a (Some f) e =
      let l = next (changed acts f n) (note f d) (after-owed m n raw d f a e) in
      record { added = l.added; past = l.past; outs = l.outs; heard = l.heard; at = l.at }

  pub settle-led : Scripted script acts → (k : ℕ) (n : Notes) (raw : List Given) (d : Desk) → At n raw d →
      Led (settled me run acts raw d.heard k d.added n) raw d (settle_up script me run (tasks acts) k d)
  unfolding settled settle_up
  settle-led m zero n raw d a = record { added = refl; past = refl; outs = refl; heard = refl; at = a }
  settle-led m (suc k) n raw d a =
      let b : Book = state script me run (tasks acts) d in
      subst (λ (o : Option Effect). Led (settle_on me run acts raw d.heard (settled me run acts raw d.heard k) o d.added n) raw d (note_if (settle_up script me run (tasks acts) k) (owed script me run (tasks acts) b d.heard) d))
      (sym (owed-any script run acts me n (kept n raw) b d.heard (knows m n raw d a) (same-run n raw d a)))
      (settle-step m k n raw d (λ n' d' a'. settle-led m k n' raw d' a') a (owed script me run (tasks acts) b d.heard) refl)
