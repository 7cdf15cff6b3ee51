-- one request for each pseudotime; tries found by their stamp; tries and acts of the run and the plan
use Rattle.broker_laws.proofs.Names.{StampParts, TimeParts, Task, Effect, Outcome, Act, Book, Try, book, close, enter, find, gain, on_act, on_front, on_try, tries_of, Started, IsReady, IsTidy, Distinct, IsAskOf, same_stamp-is, same_stamp-self, Every, same_stamp, Answer, Asks, Got, Request, Stored, Tree, stop, ◌≡◌, ℕ, zero, suc, Bool, true, false, length, List, [], ◌∷◌, ◌++◌, refl, sym, ◌∙◌, ap, subst, Option, Some, None, if◌then◌else◌, arith, slice_get, OfAct, IsPlanned}
use Rattle.effect_form.specs.declared.effects.Effect.TheVariants as effect
use Rattle.effect_form.specs.declared.outcomes.Outcome.TheVariants as outcome
use Rattle.broker_laws.proofs.Kept.{started}

unfoldable tail : List Answer → List Answer
tail [] = []
tail (a ∷ xs) = xs

unfoldable head_or : Answer → List Answer → Answer
head_or d [] = d
head_or d (a ∷ xs) = a

same-front : (pre post qre qost : List Answer) → pre ++ post ≡ qre ++ qost → length pre ≡ length qre → pre ≡ qre
unfolding tail head_or
same-front [] post [] qost e n = refl
same-front [] post (y ∷ qre) qost e n = absurd (omega arith)
same-front (x ∷ pre) post [] qost e n = absurd (omega arith)
same-front (x ∷ pre) post (y ∷ qre) qost e n =
    let h : x ≡ y = ap (λ xs. head_or x xs) e in
    let t : pre ≡ qre = same-front pre post qre qost (ap (λ xs. tail xs) e) (omega arith) in cc

module _ (script : List ℕ → Tree) (me : ℕ) where
  asks-same : (t u : Try) (pre qre : List Answer) (q r : Request) → t ≡ u → pre ≡ qre → stop (script t.task.script) pre ≡ Asks q → stop (script u.task.script) qre ≡ Asks r → q ≡ r
  asks-same t u pre qre q r e f h k =
      let a : stop (script u.task.script) qre ≡ Asks q = subst (λ y. stop (script y.task.script) qre ≡ Asks q) e (subst (λ y. stop (script t.task.script) y ≡ Asks q) f h) in
      let b : Asks q ≡ Asks r = sym a ∙ k in cc

  -- one request for each pseudotime
  pub one-request : (ts : List Try) (x : TimeParts) (q r : Request) → IsAskOf script ts x q → IsAskOf script ts x r → q ≡ r
  one-request ts x q r h k =
      let e : Some h.0 ≡ Some k.0 = sym h.1 ∙ k.1 in
      let t : h.0 ≡ k.0 = cc in
      let n : length h.2.0 ≡ length k.2.0 = (let a = h.2.3 in let b = k.2.3 in omega arith) in
      asks-same h.0 k.0 h.2.0 k.2.0 q r t (same-front h.2.0 h.2.1 k.2.0 k.2.1 (sym h.2.2 ∙ ap (λ (y : Try). y.answers) t ∙ k.2.2) n) h.2.4 k.2.4

-- a try in the book is found by its stamp, and what holds of each holds of the found one
here : (c : Bool) (x : Try) (s : StampParts) (r : Option Try) (t : Try) (P : Try → Type 0) → same_stamp x.stamp s ≡ c →
    (if c then Some x else r) ≡ Some t → P x → (r ≡ Some t → P t × (t.stamp ≡ s)) → P t × (t.stamp ≡ s)
here true x s r t P e h p k = let y : x ≡ t = cc in (subst P y p, subst (λ (z : Try). z.stamp ≡ s) y (same_stamp-is x.stamp s e))
here false x s r t P e h p k = k h

pub each-found : (P : Try → Type 0) (s : StampParts) (ts : List Try) (t : Try) → find s ts ≡ Some t → Every P ts → P t × (t.stamp ≡ s)
each-found P s [] t h all = cc
each-found P s (x ∷ ts) t h all = here (same_stamp x.stamp s) x s (find s ts) t P refl h all.0 (λ k. each-found P s ts t k all.1)

past : (c : Bool) (x t : Try) (ts : List Try) → same_stamp x.stamp t.stamp ≡ c → find x.stamp ts ≡ None → find t.stamp ts ≡ Some t → (if c then Some x else find t.stamp ts) ≡ Some t
past true x t ts e n h = let no : None ≡ Some t = sym (subst (λ s. find s ts ≡ None) (same_stamp-is x.stamp t.stamp e) n) ∙ h in cc
past false x t ts e n h = h

pub found-in : (ts : List Try) (i : ℕ) (t : Try) → Distinct ts → slice_get ts i ≡ Some t → find t.stamp ts ≡ Some t
found-in [] i t d h = cc
found-in (x ∷ ts) zero t d h = let e : x ≡ t = cc in subst (λ (y : Try). find y.stamp (x ∷ ts) ≡ Some y) e (rw (same_stamp-self x.stamp) refl)
found-in (x ∷ ts) (suc i) t d h = past (same_stamp x.stamp t.stamp) x t ts refl d.0 (found-in ts i t d.1 h)

-- acts and tries of the run, of any log
abbrev Kin : ℕ → Act → Type 0
Kin run a = (a.run ≡ run) × OfAct a

kin-on : (run : ℕ) (g : Act → Act) → ((a : Act) → Kin run a → Kin run (g a)) → (as' : List Act) → Every (Kin run) as' → Every (Kin run) (on_act g as')
kin-on run g k [] h = h
kin-on run g k (a ∷ as') h = (k a h.0, h.1)

kin-front : (run : ℕ) (g : Try → Try) (a : Act) → ((t : Try) → (g t).task ≡ t.task) → ((t : Try) → (g t).run ≡ t.run) → Kin run a → Kin run (record a { tries = on_front g a.tries })
kin-front run g a s r k = (k.0, (elim a.tries as (λ ts. Every (λ t. (t.task ≡ a.task) × (t.run ≡ a.run)) ts → Every (λ t. (t.task ≡ a.task) × (t.run ≡ a.run)) (on_front g ts)) [ [] ↦ λ h. h | t ∷ ts ↦ λ h. ((s t ∙ h.0.0, r t ∙ h.0.1), h.1) ]) k.1)

kin-try : (run : ℕ) (g : Try → Try) (as' : List Act) → ((t : Try) → (g t).task ≡ t.task) → ((t : Try) → (g t).run ≡ t.run) → Every (Kin run) as' → Every (Kin run) (on_try g as')
kin-try run g as' s r h = kin-on run (λ a. record a { tries = on_front g a.tries }) (λ a k. kin-front run g a s r k) as' h

kin-close : (o : Outcome) (b : Book) → Every (Kin b.run) b.acts → Every (Kin (close o b).run) (close o b).acts
kin-close (outcome.Spent c) b h = kin-on b.run _ (λ a k. k) b.acts h
kin-close o b h = kin-try b.run _ b.acts (λ t. refl) (λ t. refl) h

kin-enter : (f : Effect) (b : Book) → Every (Kin b.run) b.acts → Every (Kin (enter f b).run) (enter f b).acts
kin-enter (effect.Run n) b h = tt
kin-enter (effect.Act i x t k c y) b h = ((refl, tt), h)
kin-enter (effect.Try i s) b h = kin-on b.run _ (λ a k. (k.0, ((refl, refl), k.1))) b.acts h
kin-enter (effect.Got k v) b h = kin-try b.run (gain (Got v)) b.acts (λ t. refl) (λ t. refl) h
kin-enter (effect.Acked k) b h = kin-try b.run (gain Stored) b.acts (λ t. refl) (λ t. refl) h
kin-enter (effect.End i o) b h = kin-close o b h
kin-enter f b h = h

pub kin : (log : List Effect) → Every (λ a. (a.run ≡ (book log).run) × OfAct a) (book log).acts
unfolding book
kin [] = tt
kin (f ∷ log) = kin-enter f (book log) (kin log)

planned-one : (acts : List Task) (run n : ℕ) (a : Act) (ts more : List Try) → a.run ≡ run → slice_get acts n ≡ Some a.task →
    Every (λ t. (t.task ≡ a.task) × (t.run ≡ a.run)) ts → Every (IsPlanned run acts) more → Every (IsPlanned run acts) (ts ++ more)
planned-one acts run n a [] more r s h all = all
planned-one acts run n a (t ∷ ts) more r s h all = ((h.0.1 ∙ r, (n, s ∙ ap (λ x. Some x) (sym h.0.0))), planned-one acts run n a ts more r s h.1 all)

planned-all : (acts : List Task) (run : ℕ) (as' : List Act) → Started acts as' → Every (Kin run) as' → Every (IsPlanned run acts) (tries_of as')
planned-all acts run [] s k = tt
planned-all acts run (a ∷ done) s k = planned-one acts run (length done) a a.tries (tries_of done) k.0.0 s.1 k.0.1 (planned-all acts run done s.0 k.1)

-- each try of the run is a try of an act of the plan
pub planned : (script : List ℕ → Tree) (me run : ℕ) (acts : List Task) (log : List Effect) → IsTidy script me log → IsReady script me run acts log →
    (book log).run ≡ run → Every (IsPlanned run acts) (tries_of (book log).acts)
planned script me run acts log t r e =
    planned-all acts run (book log).acts (started script me run acts log t r.same_plan e)
    (subst (λ n. Every (λ a. (a.run ≡ n) × OfAct a) (book log).acts) e (kin log))
