-- The attempts of a run: each is a try of a broker's book, at the home that its act has in the plan.
use Rattle.serial_law.proofs.Names.{Every, Has, same_stamp, StampParts, NodeId, has-either, has-left, same_stamp-is, Effect, Outcome, Tree, Act, Book, book, tries, tries_of, ActSpec, keep, tasks, acts_of, broker, MayTry, attempt, ◌≡◌, ℕ, zero, suc, ◌≤◌, ◌==◌, Bool, true, false, List, [], ◌∷◌, ◌++◌, map, refl, sym, ◌∙◌, subst, Some, None, inl, inr, arith, if◌then◌else◌, ap, eqb-true, same_stamp-self, FitsBook, IsTidy, book_tries, run_tries}
use Rattle.effect_form.specs.declared.effects.Effect.TheVariants as effect
use Rattle.effect_form.specs.declared.outcomes.Outcome.TheVariants as outcome
use Rattle.broker_core.specs.Book.{Try, close, enter, find, finish, gain, on_act, on_front, on_try, new_try}
use Rattle.broker_laws.specs.Posts.{Distinct}
use Rattle.world_core.specs.Deeds as deeds

-- ---- homes

abbrev pub IsHome : Try → Type 0
IsHome t = t.stamp.home ≡ t.task.home

abbrev Homes : Act → Type 0
Homes a = Every IsHome a.tries

homes-on : (g : Act → Act) → ((a : Act) → Homes a → Homes (g a)) → (acts : List Act) → Every Homes acts → Every Homes (on_act g acts)
homes-on g k [] h = h
homes-on g k (a ∷ acts) h = (k a h.0, h.1)

-- a change that keeps the task and the stamp of a try
homes-try : (g : Try → Try) → ((t : Try) → IsHome t → IsHome (g t)) → (acts : List Act) → Every Homes acts → Every Homes (on_try g acts)
homes-try g k acts h = homes-on (λ a. record a { tries = on_front g a.tries }) (λ a. elim a.tries as (λ ts. Every IsHome ts → Every IsHome (on_front g ts)) [ [] ↦ λ h. h | t ∷ ts ↦ λ h. (k t h.0, h.1) ]) acts h

homes-close : (o : Outcome) (b : Book) → Every Homes b.acts → Every Homes (close o b).acts
homes-close (outcome.Spent c) b h = homes-on (λ a. record a { spent = Some c }) (λ a p. p) b.acts h
homes-close o b h = homes-try (finish o) (λ t p. p) b.acts h

module _ (script : List ℕ → Tree) (me : ℕ) where
  homes-began : (i : ℕ) (s : StampParts) (clock : ℕ) (acts : List Act) → MayTry i acts (λ a. (s.broker ≡ me) × (s.home ≡ a.task.home) × (suc clock ≤ s.clock)) → Every Homes acts →
      Every Homes (on_act (λ a. record a { tries = new_try a s ∷ a.tries }) acts)
  homes-began i s clock [] m h = h
  homes-began i s clock (a ∷ acts) m h = ((m.3.1, h.0), h.1)

  homes-enter : (f : Effect) (b : Book) → FitsBook script me b f → Every Homes b.acts → Every Homes (enter f b).acts
  homes-enter (effect.Run n) b m h = tt
  homes-enter (effect.Act i x t k c y) b m h = (tt, h)
  homes-enter (effect.Try i s) b m h = homes-began i s b.clock b.acts m h
  homes-enter (effect.Got k v) b m h = homes-try (gain _) (λ t p. p) b.acts h
  homes-enter (effect.Acked k) b m h = homes-try (gain _) (λ t p. p) b.acts h
  homes-enter (effect.End i o) b m h = homes-close o b h
  homes-enter f b m h = h

  all-homes : (log : List Effect) → IsTidy script me log → Every Homes (book log).acts
  unfolding book
  all-homes [] h = tt
  all-homes (f ∷ log) h = homes-enter f (book log) h.1 (all-homes log h.0)

  of-acts : (acts : List Act) (t : Try) → Every Homes acts → Has t (tries_of acts) → IsHome t
  of-acts [] t h k = absurd k
  of-acts (a ∷ acts) t h k = elim (has-either a.tries (tries_of acts) t k) [ inl e ↦ of-tries a.tries h.0 e | inr e ↦ of-acts acts t h.1 e ]
    where
      of-tries : (ts : List Try) → Every IsHome ts → Has t ts → IsHome t
      of-tries [] h k = absurd k
      of-tries (u ∷ ts) h (inl e) = subst IsHome e h.0
      of-tries (u ∷ ts) h (inr k) = of-tries ts h.1 k

  -- a try of the run has its act's home
  pub try-home : (log : List Effect) (t : Try) → IsTidy script me log → Has t (tries_of (book log).acts) → t.stamp.home ≡ t.task.home
  try-home log t h k = of-acts (book log).acts t (all-homes log h) k

-- ---- tries of books

all-tries : (acts past : List Act) (t : Try) → Has t (tries_of acts) → Has t (tries_of (acts ++ past))
all-tries [] past t h = absurd h
all-tries (a ∷ acts) past t h = elim (has-either a.tries (tries_of acts) t h) [ inl e ↦ has-left a.tries (tries_of (acts ++ past)) t e | inr e ↦ behind a.tries (all-tries acts past t e) ]
  where
    behind : (ts : List Try) → Has t (tries_of (acts ++ past)) → Has t (ts ++ tries_of (acts ++ past))
    behind [] h = h
    behind (u ∷ ts) h = inr (behind ts h)

-- a try of the run is one of the book
pub of-book : (b : Book) (t : Try) → Has t (tries_of b.acts) → Has t (tries b)
of-book b t h = all-tries b.acts b.past t h

-- it is found by its stamp
pub found-try : (ts : List Try) (t : Try) → Distinct ts → Has t ts → find t.stamp ts ≡ Some t
found-try [] t d h = absurd h
found-try (u ∷ ts) t d (inl e) = subst (λ (y : Try). find y.stamp (u ∷ ts) ≡ Some y) e (rw (same_stamp-self u.stamp) refl)
found-try (u ∷ ts) t d (inr h) = past (same_stamp u.stamp t.stamp) refl (found-try ts t d.1 h)
  where
    past : (c : Bool) → same_stamp u.stamp t.stamp ≡ c → find t.stamp ts ≡ Some t → (if c then Some u else find t.stamp ts) ≡ Some t
    past true e k = let no : None ≡ Some t = sym (subst (λ s. find s ts ≡ None) (same_stamp-is u.stamp t.stamp e) d.0) ∙ k in absurd (cc no)
    past false e k = k

pub found-in : (s : StampParts) (ts : List Try) (t : Try) → find s ts ≡ Some t → Has t ts × (t.stamp ≡ s)
found-in s [] t e = absurd (cc e)
found-in s (x ∷ ts) t e = go (λ k. found-in s ts t k) (same_stamp x.stamp s) refl e
  where
    go : (find s ts ≡ Some t → Has t ts × (t.stamp ≡ s)) → (b : Bool) → same_stamp x.stamp s ≡ b → (if b then Some x else find s ts) ≡ Some t → Has t (x ∷ ts) × (t.stamp ≡ s)
    go again true q e = let is : x ≡ t = cc e in (inl is, ap (λ (z : Try). z.stamp) (sym is) ∙ same_stamp-is x.stamp s q)
    go again false q e = let k = again e in (inr k.0, k.1)

-- ---- attempts

-- an attempt of a run is this try of the book of this broker
pub record IsTryOf (script : List ℕ → Tree) (run : ℕ) (logs : NodeId → List Effect) (n : ℕ) (a : deeds.Try) : Type 0 where
  pub number : ℕ
  pub low : 1 ≤ number
  pub high : number ≤ n
  pub same_run : (book (logs (broker number))).run ≡ run
  pub try : Try
  pub has : Has try (tries_of (book (logs (broker number))).acts)
  pub is : attempt script try ≡ a

mapped : (script : List ℕ → Tree) (ts : List Try) (a : deeds.Try) → Has a (map (attempt script) ts) → (t : Try) × Has t ts × (attempt script t ≡ a)
mapped script [] a h = absurd h
mapped script (t ∷ ts) a (inl e) = (t, inl refl, e)
mapped script (t ∷ ts) a (inr h) = let r = mapped script ts a h in (r.0, inr r.1, r.2)

of-run : (script : List ℕ → Tree) (run : ℕ) (b : Book) (a : deeds.Try) → Has a (book_tries script run b) → (b.run ≡ run) × ((t : Try) × Has t (tries_of b.acts) × (attempt script t ≡ a))
of-run script run b a h = go (b.run == run) refl h
  where
    go : (c : Bool) → (b.run == run) ≡ c → Has a (if c then map (attempt script) (tries_of b.acts) else []) → (b.run ≡ run) × ((t : Try) × Has t (tries_of b.acts) × (attempt script t ≡ a))
    go true e h = (eqb-true b.run run e, mapped script (tries_of b.acts) a h)
    go false e h = absurd h

-- the attempts in whole logs
unfoldable pub booked_tries : (List ℕ → Tree) → ℕ → (NodeId → List Effect) → ℕ → List deeds.Try
booked_tries script run logs zero = []
booked_tries script run logs (suc b) = booked_tries script run logs b ++ book_tries script run (book (logs (broker (suc b))))

-- where all of each log counts, they are the run's
pub tries-kept : (script : List ℕ → Tree) (run : ℕ) (acts : List ActSpec) (logs : NodeId → List Effect) (n : ℕ) →
    ((b : ℕ) → 1 ≤ b → b ≤ n → keep script b run (tasks (acts_of b acts)) (logs (broker b)) ≡ logs (broker b)) → run_tries script run acts logs n ≡ booked_tries script run logs n
unfolding run_tries booked_tries
tries-kept script run acts logs zero h = refl
tries-kept script run acts logs (suc b) h = λ i. tries-kept script run acts logs b (λ c low high. h c low (omega (arith, high))) i ++ book_tries script run (book (h (suc b) (omega arith) (omega arith) i))

pub try-of : (script : List ℕ → Tree) (run : ℕ) (logs : NodeId → List Effect) (n : ℕ) (a : deeds.Try) → Has a (booked_tries script run logs n) → IsTryOf script run logs n a
unfolding booked_tries
try-of script run logs zero a h = absurd h
try-of script run logs (suc n) a h =
    elim (has-either (booked_tries script run logs n) (book_tries script run (book (logs (broker (suc n))))) a h) [
      | inl e ↦ (let r = try-of script run logs n a e in let m = r.high in record { number = r.number; low = r.low; high = omega (arith, m); same_run = r.same_run; try = r.try; has = r.has; is = r.is })
      | inr e ↦ (let r = of-run script run (book (logs (broker (suc n)))) a e in
          record { number = suc n; low = omega arith; high = omega arith; same_run = r.0; try = r.1.0; has = r.1.1; is = r.1.2 })
    ]
