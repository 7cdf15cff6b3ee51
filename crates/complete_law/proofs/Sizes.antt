-- How large a broker's log is and how many pages it fills, by its book: one effect for the Run, each act, each attempt, each answer, each End and each act that is spent.
use Rattle.complete_law.proofs.Names.{Every, Effect, Outcome, StampParts, Answer, Got, Stored, Tree, Act, Book, Try, book, close, enter, finish, gain, new_try, on_act, on_front, on_try, open_front, open_of, another, calls_again, filled_by, most_filled, EndFits, FitsBook, IsTidy, MayTry, if-open, ◌≡◌, ℕ, ◌+◌, ◌*◌, ◌<◌, ◌≤◌, ◌==◌, max, Bool, true, false, length, List, [], ◌∷◌, ◌++◌, refl, sym, ap, subst, Option, Some, None, arith, ltb-true, common_steps, length-append}
use Rattle.effect_form.specs.declared.effects.Effect.TheVariants as effect
use Rattle.effect_form.specs.declared.outcomes.Outcome.TheVariants as outcome
use Rattle.broker_laws.proofs.TestLemmas.{and-right}

abbrev pub spent-one : Option ℕ → ℕ
spent-one None = 0
spent-one (Some c) = 1

abbrev pub end-one : Option Outcome → ℕ
end-one None = 0
end-one (Some o) = 1

abbrev pub size-try : Try → ℕ
size-try t = 1 + (length t.answers + end-one t.end)

abbrev pub size-tries : List Try → ℕ
size-tries [] = 0
size-tries (t ∷ ts) = size-try t + size-tries ts

abbrev pub size-act : Act → ℕ
size-act a = 1 + (spent-one a.spent + size-tries a.tries)

abbrev pub size-acts : List Act → ℕ
size-acts [] = 0
size-acts (a ∷ as') = size-act a + size-acts as'

-- the Run of this run
abbrev pub one-if : Bool → ℕ
one-if true = 1
one-if false = 0

abbrev pub begun-run : ℕ → Book → ℕ
begun-run run b = one-if (b.run == run)

-- a Run is that of this run
abbrev pub IsOfRun : ℕ → Effect → Type 0
IsOfRun run (effect.Run n) = n ≡ run
IsOfRun run f = Unit {0}

gain-front : (x : Answer) (ts : List Try) (t : Try) → open_front ts ≡ Some t → size-tries (on_front (gain x) ts) ≡ size-tries ts + 1
gain-front x [] t e = absurd (cc e)
gain-front x (u ∷ ts) t e = let k : length (u.answers ++ x ∷ []) ≡ length u.answers + 1 = length-append u.answers (x ∷ []) in omega (arith, k)

gain-size : (x : Answer) (as' past : List Act) (t : Try) → open_of as' ≡ Some t → size-acts (on_try (gain x) as' ++ past) ≡ size-acts (as' ++ past) + 1
gain-size x [] past t e = absurd (cc e)
gain-size x (a ∷ as') past t e = let k = gain-front x a.tries t e in omega (arith, k)

finish-front : (o : Outcome) (ts : List Try) (t : Try) → open_front ts ≡ Some t → size-tries (on_front (finish o) ts) ≡ size-tries ts + 1
finish-front o [] t e = absurd (cc e)
finish-front o (u ∷ ts) t e = let k : end-one u.end ≡ 0 = ap end-one (if-open u u.end t e).1 in omega (arith, k)

finish-size : (o : Outcome) (as' past : List Act) (t : Try) → open_of as' ≡ Some t → size-acts (on_try (finish o) as' ++ past) ≡ size-acts (as' ++ past) + 1
finish-size o [] past t e = absurd (cc e)
finish-size o (a ∷ as') past t e = let k = finish-front o a.tries t e in omega (arith, k)

try-size : (i : ℕ) (s : StampParts) (as' past : List Act) (P : Act → Type 0) → MayTry i as' P → size-acts (on_act (λ a. record a { tries = new_try a s ∷ a.tries }) as' ++ past) ≡ size-acts (as' ++ past) + 1
try-size i s [] past P m = absurd m
try-size i s (a ∷ as') past P m = omega arith

spent-size : (i c : ℕ) (as' past : List Act) (P : Act → Type 0) → MayTry i as' P → size-acts (on_act (λ a. record a { spent = Some c }) as' ++ past) ≡ size-acts (as' ++ past) + 1
spent-size i c [] past P m = absurd m
spent-size i c (a ∷ as') past P m = let k : spent-one a.spent ≡ 0 = ap spent-one m.1 in omega (arith, k)

module _ (script : List ℕ → Tree) (me run : ℕ) where
  abbrev pub size : Book → ℕ
  size b = begun-run run b + size-acts (b.acts ++ b.past)

  more : (r x y : ℕ) → y ≡ x + 1 → r + y ≡ (r + x) + 1
  more r x y e = omega (arith, e)

  close-size : (i : ℕ) (o : Outcome) (b : Book) → EndFits script i o b → size (close o b) ≡ size b + 1
  close-size i (outcome.Spent c) b f = more (begun-run run b) _ _ (spent-size i c b.acts b.past _ f)
  close-size i o b f = more (begun-run run b) _ _ (finish-size o b.acts b.past f.0 f.1)

  run-before : (m n : ℕ) → m < n → one-if (m == n) ≡ 0
  run-before m n h = let k : (m == n) ≡ false = grind (arith, common_steps) in ap one-if k

  run-same : (n : ℕ) → one-if (n == n) ≡ 1
  run-same n = let k : (n == n) ≡ true = grind (arith, common_steps) in ap one-if k

  run-size : (b : Book) (n : ℕ) → b.run < n → n ≡ run → size (enter (effect.Run n) b) ≡ size b + 1
  run-size b n f e =
      let x : one-if (n == run) ≡ 1 = subst (λ z. one-if (z == run) ≡ 1) (sym e) (run-same run) in
      omega (arith, x, run-before b.run run (subst (λ z. b.run < z) e f))

  enter-size : (b : Book) (f : Effect) → FitsBook script me b f → IsOfRun run f → size (enter f b) ≡ size b + 1
  enter-size b (effect.Run n) f r = run-size b n f r
  enter-size b (effect.Act i x t k c y) f r = omega arith
  enter-size b (effect.Try i s) f r = more (begun-run run b) _ _ (try-size i s b.acts b.past _ f)
  enter-size b (effect.Got k v) f r = more (begun-run run b) _ _ (gain-size (Got v) b.acts b.past f.0 f.1)
  enter-size b (effect.Acked k) f r = more (begun-run run b) _ _ (gain-size Stored b.acts b.past f.0 f.1)
  enter-size b (effect.End i o) f r = close-size i o b f
  enter-size b g f r = absurd f

  start-size : (n : ℕ) → 0 ≤ n
  start-size n = omega arith

  -- no log is longer than its book says
  pub log-size : (log : List Effect) → IsTidy script me log → Every (IsOfRun run) log → length log ≤ size (book log)
  unfolding book
  log-size [] t r = omega arith
  log-size (f ∷ log) t r = let k = enter-size (book log) f t.1 r.0 in let h = log-size log t.0 r.1 in omega (arith, h, k)

  -- ---- and how many pages it fills

  abbrev pub pages : Book → ℕ
  pages b = begun-run run b + 17 * size-acts (b.acts ++ b.past)

  more-pages : (r x y : ℕ) → y ≡ x + 1 → r + 17 * y ≡ (r + 17 * x) + 17
  more-pages r x y e = omega (arith, e)

  close-pages : (i : ℕ) (o : Outcome) (b : Book) → EndFits script i o b → pages (close o b) ≡ pages b + 17
  close-pages i (outcome.Spent c) b f = more-pages (begun-run run b) _ _ (spent-size i c b.acts b.past _ f)
  close-pages i o b f = more-pages (begun-run run b) _ _ (finish-size o b.acts b.past f.0 f.1)

  run-pages : (b : Book) (n : ℕ) → b.run < n → n ≡ run → pages (enter (effect.Run n) b) ≡ pages b + 1
  run-pages b n f e =
      let x : one-if (n == run) ≡ 1 = subst (λ z. one-if (z == run) ≡ 1) (sym e) (run-same run) in
      omega (arith, x, run-before b.run run (subst (λ z. b.run < z) e f))

  enter-pages : (b : Book) (f : Effect) → FitsBook script me b f → IsOfRun run f → pages (enter f b) ≡ pages b + most_filled f
  enter-pages b (effect.Run n) f r = run-pages b n f r
  enter-pages b (effect.Act i x t k c y) f r = omega arith
  enter-pages b (effect.Try i s) f r = more-pages (begun-run run b) _ _ (try-size i s b.acts b.past _ f)
  enter-pages b (effect.Got k v) f r = more-pages (begun-run run b) _ _ (gain-size (Got v) b.acts b.past f.0 f.1)
  enter-pages b (effect.Acked k) f r = more-pages (begun-run run b) _ _ (gain-size Stored b.acts b.past f.0 f.1)
  enter-pages b (effect.End i o) f r = close-pages i o b f
  enter-pages b g f r = absurd f

  -- no log fills more pages than its book says
  pub log-pages : (log : List Effect) → IsTidy script me log → Every (IsOfRun run) log → filled_by log ≤ pages (book log)
  unfolding book
  log-pages [] t r = omega arith
  log-pages (f ∷ log) t r = let k = enter-pages (book log) f t.1 r.0 in let h = log-pages log t.0 r.1 in omega (arith, h, k)

-- ---- an act has no more attempts than it may have, one fewer where it is spent

abbrev pub IsSpare : Act → Type 0
IsSpare a = length a.tries + spent-one a.spent ≤ max 1 a.task.tries

more-tries : (most : ℕ) (ts : List Try) (t : Try) → another most ts ≡ true → length (t ∷ ts) ≤ max 1 most
more-tries most [] t h = omega arith
more-tries most (x ∷ ts) t h = let k : length (x ∷ ts) < most = ltb-true (length (x ∷ ts)) most (and-right (calls_again x.end) _ h) in omega arith

front-length : (g : Try → Try) (ts : List Try) → length (on_front g ts) ≡ length ts
front-length g [] = refl
front-length g (t ∷ ts) = refl

module _ (script : List ℕ → Tree) (me : ℕ) where
  spare-on : (g : Try → Try) (as' past : List Act) → Every IsSpare (as' ++ past) → Every IsSpare (on_try g as' ++ past)
  spare-on g [] past h = h
  spare-on g (a ∷ as') past h = (subst (λ n. n + spent-one a.spent ≤ max 1 a.task.tries) (sym (front-length g a.tries)) h.0, h.1)

  spare-try : (i : ℕ) (s : StampParts) (as' past : List Act) (P : Act → Type 0) → MayTry i as' P → Every IsSpare (as' ++ past) → Every IsSpare (on_act (λ a. record a { tries = new_try a s ∷ a.tries }) as' ++ past)
  spare-try i s [] past P f h = h
  spare-try i s (a ∷ as') past P f h =
      let z : spent-one a.spent ≡ 0 = ap spent-one f.1 in
      (omega (arith, more-tries a.task.tries a.tries (new_try a s) f.2, z), h.1)

  spare-spent : (i c : ℕ) (as' past : List Act) (P : Act → Type 0) → MayTry i as' P → Every IsSpare (as' ++ past) → Every IsSpare (on_act (λ a. record a { spent = Some c }) as' ++ past)
  spare-spent i c [] past P f h = h
  spare-spent i c (a ∷ as') past P f h = (one a.tries f.2, h.1)
    where
      one : (ts : List Try) → another a.task.tries ts ≡ true → length ts + 1 ≤ max 1 a.task.tries
      one [] e = omega arith
      one (x ∷ ts) e = let k = more-tries a.task.tries (x ∷ ts) x e in let j : length (x ∷ (x ∷ ts)) ≡ length (x ∷ ts) + 1 = omega arith in omega (arith, k, j)

  spare-close : (i : ℕ) (o : Outcome) (b : Book) → EndFits script i o b → Every IsSpare (b.acts ++ b.past) → Every IsSpare ((close o b).acts ++ (close o b).past)
  spare-close i (outcome.Spent c) b f h = spare-spent i c b.acts b.past _ f h
  spare-close i o b f h = spare-on _ b.acts b.past h

  spare-enter : (b : Book) (f : Effect) → FitsBook script me b f → Every IsSpare (b.acts ++ b.past) → Every IsSpare ((enter f b).acts ++ (enter f b).past)
  spare-enter b (effect.Run n) f h = h
  spare-enter b (effect.Act i x t k c y) f h = (omega arith, h)
  spare-enter b (effect.Try i s) f h = spare-try i s b.acts b.past _ f h
  spare-enter b (effect.Got k v) f h = spare-on (gain (Got v)) b.acts b.past h
  spare-enter b (effect.Acked k) f h = spare-on (gain Stored) b.acts b.past h
  spare-enter b (effect.End i o) f h = spare-close i o b f h
  spare-enter b g f h = absurd f

  pub spare : (log : List Effect) → IsTidy script me log → Every IsSpare ((book log).acts ++ (book log).past)
  unfolding book
  spare [] h = tt
  spare (f ∷ log) h = spare-enter (book log) f h.1 (spare log h.0)
