-- With one broker the request that stands is later than all that was asked for before it.
use Rattle.complete_law.proofs.Names.{Every, Has, every-has, has-either, StampParts, TimeParts, lt, same_stamp, stamp_lt, same_stamp-is, Effect, Outcome, Answer, Got, Request, Stored, Tree, Act, Book, Try, book, close, enter, find, finish, gain, on_try, open_of, tries, tries_of, EndFits, FitsBook, IsTidy, MayTry, Clocks, IsAskOf, IsBelow, older, each-found, clocks, ◌≡◌, ◌⊎◌, ℕ, ◌+◌, ◌<◌, nat_lt, Bool, true, false, length, List, [], ◌∷◌, ◌++◌, refl, sym, ◌∙◌, ap, subst, Some, if◌then◌else◌, inl, inr, arith, common_steps, false≢true, nat_cmp, ordering_then, is_lt, Ordering, Less, Equal, Greater, lt-stamps, lt-steps, at-open}
use Rattle.effect_form.specs.declared.effects.Effect.TheVariants as effect
use Rattle.effect_form.specs.declared.outcomes.Outcome.TheVariants as outcome
use Rattle.broker_laws.specs.Waits.{Trail}

-- each attempt has a greater clock than those before it
abbrev pub Falling : List Try → Type 0
Falling [] = Unit {0}
Falling (t ∷ ts) = Every (λ (u : Try). u.stamp.clock < t.stamp.clock) ts × Falling ts

module _ (script : List ℕ → Tree) (me : ℕ) where
  falling-new : (clock : ℕ) (s : StampParts) (ts : List Try) → clock < s.clock → Every (IsBelow me clock) ts → Every (λ (u : Try). u.stamp.clock < s.clock) ts
  falling-new clock s [] h all = tt
  falling-new clock s (t ∷ ts) h all = ((let c = all.0.0 in omega arith), falling-new clock s ts h all.1)

  falling-try : (i : ℕ) (s : StampParts) (clock : ℕ) (acts past : List Act) → MayTry i acts (λ a. (s.broker ≡ me) × (s.home ≡ a.task.home) × (clock < s.clock)) →
      Every (IsBelow me clock) (tries_of (acts ++ past)) → Falling (tries_of (acts ++ past)) →
      Falling (tries_of ((enter (effect.Try i s) (record { run = 0; clock = 0; shown = 0; acts = acts; past = past })).acts ++ past))
  falling-try i s clock [] past h all k = absurd h
  falling-try i s clock (a ∷ acts) past h all k = (falling-new clock s (tries_of ((a ∷ acts) ++ past)) h.3.2 all, k)

  falling-open : (g : Try → Try) → ((t : Try) → (g t).stamp ≡ t.stamp) → (acts past : List Act) (t : Try) → open_of acts ≡ Some t → Falling (tries_of (acts ++ past)) → Falling (tries_of (on_try g acts ++ past))
  falling-open g same acts past t e k =
      let w = at-open g acts past t e in
      let old : Falling (t ∷ w.0) = subst Falling w.1 k in
      subst Falling (sym w.2) (subst (λ (s : StampParts). Every (λ (u : Try). u.stamp.clock < s.clock) w.0) (sym (same t)) old.0, old.1)

  falling-close : (i : ℕ) (o : Outcome) (b : Book) → EndFits script i o b → Falling (tries b) → Falling (tries (close o b))
  falling-close i (outcome.Spent c) b h k = spent b.acts b.past k
    where
      spent : (acts past : List Act) → Falling (tries_of (acts ++ past)) → Falling (tries_of ((close (outcome.Spent c) (record b { acts = acts; past = past })).acts ++ past))
      spent [] past k = k
      spent (a ∷ acts) past k = k
  falling-close i o b h k = falling-open (finish o) (λ t. refl) b.acts b.past h.0 h.1 k

  falling-kept : (b : Book) (f : Effect) → FitsBook script me b f → Clocks me b → Falling (tries b) → Falling (tries (enter f b))
  falling-kept b (effect.Run n) h c k = k
  falling-kept b (effect.Act i x t n y z) h c k = k
  falling-kept b (effect.Try i s) h c k = falling-try i s b.clock b.acts b.past h c k
  falling-kept b (effect.Got n v) h c k = falling-open (gain (Got v)) (λ t. refl) b.acts b.past h.0 h.1 k
  falling-kept b (effect.Acked n) h c k = falling-open (gain Stored) (λ t. refl) b.acts b.past h.0 h.1 k
  falling-kept b (effect.End i o) h c k = falling-close i o b h k
  falling-kept b f h c k = absurd h

  pub falling : (log : List Effect) → IsTidy script me log → Falling (tries (book log))
  unfolding book
  falling [] h = tt
  falling (f ∷ log) h = falling-kept (book log) f h.1 (clocks script me log h.0) (falling log h.0)

-- an attempt that isn't decided is the last
pub undecided-last : (run : ℕ) (B D : StampParts → Type 0) (as' : List Act) (t : Try) → Trail run B D as' → Has t (tries_of as') → (D t.stamp → ⊥) → (rest : List Try) × (tries_of as' ≡ t ∷ rest)
undecided-last run B D [] t k i off = absurd i
undecided-last run B D (a ∷ done) t k i off = go a.tries k.1 i
  where
    decided : (ts : List Try) → Every (λ (x : Try). D x.stamp) ts → Has t ts → ⊥
    decided ts all h = off (every-has (λ (x : Try). D x.stamp) ts t all h)

    go : (ts : List Try) → Every (λ (x : Try). D x.stamp) (older ts) → Has t (ts ++ tries_of done) → (rest : List Try) × (ts ++ tries_of done ≡ t ∷ rest)
    go [] all h = absurd (decided (tries_of done) k.0 h)
    go (u ∷ us) all (inl e) = (us ++ tries_of done, ap (λ z. z ∷ (us ++ tries_of done)) e)
    go (u ∷ us) all (inr h) = absurd (elim (has-either us (tries_of done) t h) [ inl x ↦ decided us all x | inr x ↦ decided (tries_of done) k.0 x ])

-- ---- times

level : (n m : ℕ) → n < m → is_lt (nat_cmp n m) ≡ true
level n m h = grind (arith, common_steps)

then-less : (o p : Ordering) → is_lt o ≡ true → is_lt (ordering_then o p) ≡ true
then-less Less p h = refl
then-less Equal p h = absurd (false≢true h)
then-less Greater p h = h

clock-less : (a b : StampParts) → a.clock < b.clock → stamp_lt a b ≡ true
unfolding stamp_lt
clock-less a b h = then-less (nat_cmp a.clock b.clock) _ (level a.clock b.clock h)

less-or-same : (n m : ℕ) → n < m + 1 → (nat_lt n m ≡ true) ⊎ (n ≡ m)
less-or-same n m h = (elim (nat_lt n m) as (λ c. nat_lt n m ≡ c → (nat_lt n m ≡ true) ⊎ (n ≡ m)) [ true ↦ λ e. inl e | false ↦ λ e. inr (same e) ]) refl
  where
    same : nat_lt n m ≡ false → n ≡ m
    same e = grind (arith, common_steps)

front-short : (pre post all : List Answer) → all ≡ pre ++ post → length pre < length all + 1
front-short pre post all e = let k : length all ≡ length (pre ++ post) = ap (λ (xs : List Answer). length xs) e in grind (arith, common_steps)

-- what was ever asked lies below the current request of the last attempt, or is at its pseudotime
pub asked-before : (script : List ℕ → Tree) (ts rest : List Try) (t : Try) (x e : TimeParts) (q : Request) → ts ≡ t ∷ rest → Falling ts → t.stamp ≡ x.stamp → x.step ≡ length t.answers + 1 →
    IsAskOf script ts e q → (lt e x ≡ true) ⊎ (e ≡ x)
asked-before script ts rest t x e q is fall own step ask = go (same_stamp t.stamp e.stamp) refl (subst (λ zs. find e.stamp zs ≡ Some ask.0) is ask.1)
  where
    falls : Falling (t ∷ rest)
    falls = subst Falling is fall

    by-step : e.stamp ≡ x.stamp → (nat_lt e.step x.step ≡ true) ⊎ (e.step ≡ x.step) → (lt e x ≡ true) ⊎ (e ≡ x)
    by-step s (inl h) = inl (subst (λ z. lt e (record { stamp = z; step = x.step }) ≡ true) s (lt-steps e.stamp e.step x.step ∙ h))
    by-step s (inr h) = inr (ap (λ z. let y : TimeParts = record { stamp = z; step = e.step } in y) s ∙ ap (λ n. let y : TimeParts = record { stamp = x.stamp; step = n } in y) h)

    short : t ≡ ask.0 → e.step < x.step + 1
    short same = omega (arith, front-short ask.2.0 ask.2.1 t.answers (ap (λ (y : Try). y.answers) same ∙ ask.2.2), ask.2.3, step)

    go : (c : Bool) → same_stamp t.stamp e.stamp ≡ c → (if c then Some t else find e.stamp rest) ≡ Some ask.0 → (lt e x ≡ true) ⊎ (e ≡ x)
    go true s h =
        let same : t ≡ ask.0 = cc h in
        by-step (sym (same_stamp-is t.stamp e.stamp s) ∙ own) (less-or-same e.step x.step (short same))
    go false s h =
        let k = each-found (λ (u : Try). u.stamp.clock < t.stamp.clock) e.stamp rest ask.0 h falls.0 in
        let low : e.stamp.clock < x.stamp.clock = subst (λ (z : StampParts). e.stamp.clock < z.clock) own (subst (λ (z : StampParts). z.clock < t.stamp.clock) k.1 k.0) in
        inl (lt-stamps e x (clock-less e.stamp x.stamp low))
