-- A log that is taken up leads to the notes on its book.
use Rattle.broker_ledger.proofs.Names.{ActSpec, Effect, Tree, Given, Notes, tasks, Scripted, Book, book, enter, fits, counts, add_if, keep, unfit_act, first_some, other_plan, Shows, noted, passed, run_begun, fits_at, LedgerParts, kept, answers_noted, fresh_ledger, fits_now, added, logged, led, other_at, counts_led, ◌≡◌, ℕ, max, ◌==◌, nat_lt, Bool, true, false, ◌&&◌, List, [], ◌∷◌, refl, sym, ◌∙◌, ap, subst, Option, Some, None, if◌then◌else◌, eqb-true, eq-eqb, false≢true, unfit_index, unfit_at, counts_at}
use Rattle.effect_form.specs.declared.effects.Effect.TheVariants as effect
use Rattle.effect_form.specs.declared.outcomes.Outcome.TheVariants as outcome
use Rattle.broker_ledger.specs.Counted.{counts_now, counting}
use Rattle.broker_ledger.proofs.SoundLemmas.{sound-kept, closed-run}
use Rattle.broker_ledger.proofs.FitLemmas.{fits-is}
use Rattle.broker_ledger.proofs.NotedLemmas.{noted-shows}
use Rattle.broker_ledger.proofs.MeetLemmas.{Knows, meets}

module _ (script : List ℕ → Tree) (me run : ℕ) (acts : List ActSpec) where
  -- the ledger has taken the log up
  pub record Took (l : LedgerParts) (log : List Effect) : Type 0 where
    pub number : l.number ≡ me
    pub of_run : l.run ≡ run
    pub of_acts : l.acts ≡ acts
    pub shows : Shows run l.notes (kept l.notes l.answers) (book (keep script me run (tasks acts) log))

  know : Scripted script acts → (l : LedgerParts) (log : List Effect) → Took l log → Knows script run acts l.notes (kept l.notes l.answers) (book (keep script me run (tasks acts) log))
  know m l log t = record { scripted = m; sound = sound-kept script me run (tasks acts) log; shows = t.shows }

  fits-same : Scripted script acts → (l : LedgerParts) (log : List Effect) (f : Effect) → Took l log → (book (keep script me run (tasks acts) log)).run ≡ run →
      fits_now l f ≡ fits script me (tasks acts) (book (keep script me run (tasks acts) log)) f
  fits-same m l log f t r =
      ap (λ (x : ℕ). fits_at x l.acts l.notes (kept l.notes l.answers) f) t.number
      ∙ (ap (λ (xs : List ActSpec). fits_at me xs l.notes (kept l.notes l.answers) f) t.of_acts
      ∙ fits-is me acts script run l.notes (kept l.notes l.answers) (book (keep script me run (tasks acts) log)) f (meets script run acts l.notes (kept l.notes l.answers) _ (know m l log t) r))

  -- in this run what fits counts
  cond : (c x : Bool) → c ≡ true → (if c then x else true) ≡ x
  cond true x e = refl
  cond false x e = cc

  counts-here : (b : Book) (f : Effect) → (b.run == run) ≡ true → counts script me run (tasks acts) b f ≡ fits script me (tasks acts) b f
  counts-here b (effect.Run m) e = refl
  counts-here b (effect.Put o x v) e = refl
  counts-here b (effect.Stretch o x) e = refl
  counts-here b (effect.Begin t d) e = refl
  counts-here b (effect.Decide t d) e = refl
  counts-here b (effect.Learn t d) e = refl
  counts-here b (effect.Mark at) e = refl
  counts-here b effect.Whole e = refl
  counts-here b f e = cond (b.run == run) _ e

  kept-shows : (n : Notes) (answers : List Given) (log : List Effect) (f : Effect) (c : Bool) → (c ≡ true → Shows run n answers (enter f (book (keep script me run (tasks acts) log)))) →
      (c ≡ false → Shows run n answers (book (keep script me run (tasks acts) log))) → Shows run n answers (book (add_if c f (keep script me run (tasks acts) log)))
  unfolding book
  kept-shows n answers log f true k l = k refl
  kept-shows n answers log f false k l = l refl

  -- an effect of this run
  here-took : Scripted script acts → (l : LedgerParts) (log : List Effect) (f : Effect) (c : Bool) → Took l log → ((book (keep script me run (tasks acts) log)).run == run) ≡ true → fits_now l f ≡ c →
      Took (if c then added l f else l) (f ∷ log)
  unfolding keep
  here-took m l log f true t e k =
      let b : Book = book (keep script me run (tasks acts) log) in
      let r : b.run ≡ run = eqb-true b.run run e in
      let fit : fits script me (tasks acts) b f ≡ true = sym (fits-same m l log f t r) ∙ k in
      let s : Shows run (noted acts f l.notes) (kept (noted acts f l.notes) (answers_noted f l.notes l.answers)) (enter f b) =
      noted-shows script me run acts l.notes l.answers b f (meets script run acts l.notes (kept l.notes l.answers) b (know m l log t) r) fit in
      let s' = subst (λ (xs : List ActSpec). Shows run (noted xs f l.notes) (kept (noted xs f l.notes) (answers_noted f l.notes l.answers)) (enter f b)) (sym t.of_acts) s in
      record {
        number = t.number;
        of_run = t.of_run;
        of_acts = t.of_acts;
        shows = kept-shows _ _ log f (counts script me run (tasks acts) b f) (λ _. s') (λ q. absurd (false≢true (sym q ∙ (counts-here b f e ∙ fit))));
      }
  here-took m l log f false t e k =
      let b : Book = book (keep script me run (tasks acts) log) in
      let r : b.run ≡ run = eqb-true b.run run e in
      let fit : fits script me (tasks acts) b f ≡ false = sym (fits-same m l log f t r) ∙ k in
      record {
        number = t.number;
        of_run = t.of_run;
        of_acts = t.of_acts;
        shows = kept-shows _ _ log f (counts script me run (tasks acts) b f) (λ q. absurd (false≢true (sym fit ∙ (sym (counts-here b f e) ∙ q)))) (λ _. t.shows);
      }

  -- an effect of another run
  other-shows : (n n' : Notes) (answers answers' : List Given) (b b' : Book) → Shows run n answers b → (b.run == run) ≡ false → b'.run ≡ b.run → n'.run ≡ n.run → n'.clock ≡ b'.clock → Shows run n' answers' b'
  other-shows n n' answers answers' b b' s e r q c = record {
    run_is = q ∙ (s.run_is ∙ sym r);
    clock_is = c;
    notes_are = λ x. absurd (false≢true (sym e ∙ eq-eqb b.run run (sym r ∙ x)));
    answers_are = λ x. absurd (false≢true (sym e ∙ eq-eqb b.run run (sym r ∙ x)));
  }

  closed-clock : (o : _) (b : Book) → (enter (effect.End 0 o) b).clock ≡ b.clock
  closed-clock outcome.Committed b = refl
  closed-clock o b = refl

  begun-run : (n : Notes) (raw : List Given) (b : Book) (m : ℕ) → Shows run n (kept n raw) b → Shows run (run_begun m n) (kept (run_begun m n) raw) (enter (effect.Run m) b)
  begun-run n raw b m s = record {
    run_is = refl;
    clock_is = s.clock_is;
    notes_are = λ r. ap (λ (c : ℕ). record { run = m; clock = c; shown = 0; started = 0; over_before = true; spent = false; tries = 0; last = None }) s.clock_is;
    answers_are = λ r. refl;
  }

  run-passed : (n : Notes) (raw : List Given) (log : List Effect) (m : ℕ) (c : Bool) → Shows run n (kept n raw) (book (keep script me run (tasks acts) log)) →
      Shows run (if c then run_begun m n else n) (kept (if c then run_begun m n else n) raw) (book (add_if c (effect.Run m) (keep script me run (tasks acts) log)))
  unfolding book
  run-passed n raw log m true s = begun-run n raw _ m s
  run-passed n raw log m false s = s

  rest-shows : (n n' : Notes) (raw : List Given) (log : List Effect) (f : Effect) (c : Bool) → Shows run n (kept n raw) (book (keep script me run (tasks acts) log)) →
      ((book (keep script me run (tasks acts) log)).run == run) ≡ false → (enter f (book (keep script me run (tasks acts) log))).run ≡ (book (keep script me run (tasks acts) log)).run →
      n'.run ≡ n.run → (c ≡ true → n'.clock ≡ (enter f (book (keep script me run (tasks acts) log))).clock) → (c ≡ false → n'.clock ≡ (book (keep script me run (tasks acts) log)).clock) →
      Shows run n' (kept n' raw) (book (add_if c f (keep script me run (tasks acts) log)))
  unfolding book
  rest-shows n n' raw log f true s e r q k l = other-shows n n' (kept n raw) (kept n' raw) (book (keep script me run (tasks acts) log)) (enter f (book (keep script me run (tasks acts) log))) s e r q (k refl)
  rest-shows n n' raw log f false s e r q k l = other-shows n n' (kept n raw) (kept n' raw) (book (keep script me run (tasks acts) log)) (book (keep script me run (tasks acts) log)) s e refl q (l refl)

  try-counts : (b : Book) (i : ℕ) (t : _) → (b.run == run) ≡ false → counts script me run (tasks acts) b (effect.Try i t) ≡ true
  try-counts b i t e = ap (λ (c : Bool). if c then fits script me (tasks acts) b (effect.Try i t) else true) e

  away-shows : (l : LedgerParts) (log : List Effect) (f : Effect) → Took l log → ((book (keep script me run (tasks acts) log)).run == run) ≡ false →
      Shows run (passed f l.notes) (kept (passed f l.notes) l.answers) (book (keep script me run (tasks acts) (f ∷ log)))
  unfolding keep
  away-shows l log (effect.Run m) t e =
      let b : Book = book (keep script me run (tasks acts) log) in
      subst (λ (c : Bool). Shows run (if c then run_begun m l.notes else l.notes) (kept (if c then run_begun m l.notes else l.notes) l.answers) (book (add_if (nat_lt b.run m) (effect.Run m) (keep script me run (tasks acts) log))))
      (ap (λ (x : ℕ). nat_lt x m) (sym t.shows.run_is)) (run-passed l.notes l.answers log m (nat_lt b.run m) t.shows)
  away-shows l log (effect.Act i x t' k c y) t e = rest-shows l.notes l.notes l.answers log (effect.Act i x t' k c y) _ t.shows e refl refl (λ _. t.shows.clock_is) (λ _. t.shows.clock_is)
  away-shows l log (effect.Try i s) t e =
      rest-shows l.notes (record l.notes { clock = max l.notes.clock s.clock }) l.answers log (effect.Try i s) _ t.shows e refl refl
      (λ _. ap (λ (c : ℕ). max c s.clock) t.shows.clock_is) (λ q. absurd (false≢true (sym q ∙ try-counts (book (keep script me run (tasks acts) log)) i s e)))
  away-shows l log (effect.Got k v) t e = rest-shows l.notes l.notes l.answers log (effect.Got k v) _ t.shows e refl refl (λ _. t.shows.clock_is) (λ _. t.shows.clock_is)
  away-shows l log (effect.Acked k) t e = rest-shows l.notes l.notes l.answers log (effect.Acked k) _ t.shows e refl refl (λ _. t.shows.clock_is) (λ _. t.shows.clock_is)
  away-shows l log (effect.End i o) t e =
      rest-shows l.notes l.notes l.answers log (effect.End i o) _ t.shows e (closed-run o (book (keep script me run (tasks acts) log))) refl
      (λ _. t.shows.clock_is ∙ sym (closed-clock o (book (keep script me run (tasks acts) log)))) (λ _. t.shows.clock_is)
  away-shows l log f t e = t.shows

  -- each effect
  one-took : Scripted script acts → (l : LedgerParts) (log : List Effect) (f : Effect) (c : Bool) → Took l log → ((book (keep script me run (tasks acts) log)).run == run) ≡ c →
      Took (if c then (if fits_now l f then added l f else l) else record l { notes = passed f l.notes }) (f ∷ log)
  one-took m l log f true t e = here-took m l log f (fits_now l f) t e refl
  one-took m l log f false t e = record { number = t.number; of_run = t.of_run; of_acts = t.of_acts; shows = away-shows l log f t e }

  same-test : (l : LedgerParts) (log : List Effect) → Took l log → (l.notes.run == l.run) ≡ ((book (keep script me run (tasks acts) log)).run == run)
  same-test l log t = ap (λ (x : ℕ). x == l.run) t.shows.run_is ∙ ap (λ (x : ℕ). (book (keep script me run (tasks acts) log)).run == x) t.of_run

  logged-took : Scripted script acts → (l : LedgerParts) (log : List Effect) (f : Effect) → Took l log → Took (logged l f) (f ∷ log)
  logged-took m l log f t =
      subst (λ (c : Bool). Took (if c then (if fits_now l f then added l f else l) else record l { notes = passed f l.notes }) (f ∷ log)) (sym (same-test l log t))
      (one-took m l log f ((book (keep script me run (tasks acts) log)).run == run) t refl)

  blank-took : Took (fresh_ledger me run acts) []
  unfolding keep book
  blank-took = record { number = refl; of_run = refl; of_acts = refl; shows = record { run_is = refl; clock_is = refl; notes_are = λ r. refl; answers_are = λ r. refl } }

  pub led-took : Scripted script acts → (log : List Effect) → Took (led (fresh_ledger me run acts) log) log
  led-took m [] = blank-took
  led-took m (f ∷ log) = logged-took m (led (fresh_ledger me run acts) log) log f (led-took m log)

  -- ---- which effects count

  counts-by : Scripted script acts → (l : LedgerParts) (log : List Effect) (f : Effect) (c : Bool) → Took l log → ((book (keep script me run (tasks acts) log)).run == run) ≡ c →
      (if c then fits_now l f else false) ≡ (if c then fits script me (tasks acts) (book (keep script me run (tasks acts) log)) f else false)
  counts-by m l log f true t e = fits-same m l log f t (eqb-true _ run e)
  counts-by m l log f false t e = refl

  counts-is : Scripted script acts → (l : LedgerParts) (log : List Effect) (f : Effect) → Took l log → counts_at l f ≡ counts_now script me run (tasks acts) (book (keep script me run (tasks acts) log)) f
  counts-is m l log f t =
      ap (λ (c : Bool). if c then fits_now l f else false) (same-test l log t) ∙ counts-by m l log f ((book (keep script me run (tasks acts) log)).run == run) t refl

  pub counting-is : Scripted script acts → (log : List Effect) → counts_led (fresh_ledger me run acts) log ≡ counting script me run (tasks acts) log
  unfolding counting
  counting-is m [] = refl
  counting-is m (f ∷ log) = λ i. counts-is m (led (fresh_ledger me run acts) log) log f (led-took m log) i ∷ counting-is m log i

  -- ---- an act that isn't the plan's

  act-unfit : (c x : Bool) (i : ℕ) → (if c then (if x then None else Some i) else None) ≡ (if c && (if x then false else true) then Some i else None)
  act-unfit true true i = refl
  act-unfit true false i = refl
  act-unfit false x i = refl

  none-either : (c : Bool) → ◌≡◌ {A = Option ℕ} (if c then None else None) None
  none-either true = refl
  none-either false = refl

  unfit-by : Scripted script acts → (l : LedgerParts) (log : List Effect) (f : Effect) (c : Bool) → Took l log → ((book (keep script me run (tasks acts) log)).run == run) ≡ c →
      (if c then unfit_index (fits_now l f) f else None) ≡ (if c then unfit_index (fits script me (tasks acts) (book (keep script me run (tasks acts) log)) f) f else None)
  unfit-by m l log f true t e = ap (λ (x : Bool). unfit_index x f) (fits-same m l log f t (eqb-true _ run e))
  unfit-by m l log f false t e = refl

  unfit-book : (b : Book) (f : Effect) → (if b.run == run then unfit_index (fits script me (tasks acts) b f) f else None) ≡ unfit_act script me run (tasks acts) b f
  unfit-book b (effect.Run n) = none-either (b.run == run)
  unfit-book b (effect.Act i x t k c y) = act-unfit (b.run == run) (fits script me (tasks acts) b (effect.Act i x t k c y)) i
  unfit-book b f = none-either (b.run == run)

  unfit-is : Scripted script acts → (l : LedgerParts) (log : List Effect) (f : Effect) → Took l log → unfit_at l f ≡ unfit_act script me run (tasks acts) (book (keep script me run (tasks acts) log)) f
  unfit-is m l log f t =
      ap (λ (c : Bool). if c then unfit_index (fits_now l f) f else None) (same-test l log t)
      ∙ (unfit-by m l log f ((book (keep script me run (tasks acts) log)).run == run) t refl ∙ unfit-book (book (keep script me run (tasks acts) log)) f)

  pub other-is : Scripted script acts → (log : List Effect) → other_at (fresh_ledger me run acts) log ≡ other_plan script me run (tasks acts) log
  unfolding other_plan
  other-is m [] = refl
  other-is m (f ∷ log) =
      ap (λ (x : Option ℕ). first_some x (unfit_at (led (fresh_ledger me run acts) log) f)) (other-is m log)
      ∙ ap (first_some (other_plan script me run (tasks acts) log)) (unfit-is m (led (fresh_ledger me run acts) log) log f (led-took m log))
