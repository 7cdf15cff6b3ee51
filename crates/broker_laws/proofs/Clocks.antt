-- a try's clock isn't below its act's
use Rattle.broker_laws.proofs.Names.{Effect, Outcome, Act, Book, Try, book, close, enter, finish, gain, on_act, on_front, on_try, tries, tries_of, new_try, FitsBook, IsTidy, Every, Got, Stored, StampParts, Tree, ℕ, List, [], ◌∷◌, ◌++◌, Some}
use Rattle.effect_form.specs.declared.effects.Effect.TheVariants as effect
use Rattle.effect_form.specs.declared.outcomes.Outcome.TheVariants as outcome
use Rattle.broker_laws.specs.Posts.{HaveCauses, IsLate, IsNotEarly, RestsOn}
use Rattle.message_form.specs.Posts.{Post}

late-front : (g : Try → Try) → ((t : Try) → IsLate t → IsLate (g t)) → (ts rest : List Try) → Every IsLate (ts ++ rest) → Every IsLate (on_front g ts ++ rest)
late-front g k [] rest all = all
late-front g k (t ∷ ts) rest all = (k t all.0, all.1)

late-on : (g : Try → Try) → ((t : Try) → IsLate t → IsLate (g t)) → (acts past : List Act) → Every IsLate (tries_of (acts ++ past)) → Every IsLate (tries_of (on_try g acts ++ past))
late-on g k [] past all = all
late-on g k (a ∷ acts) past all = late-front g k a.tries (tries_of (acts ++ past)) all

late-try : (s : StampParts) (acts past : List Act) → IsNotEarly acts s → Every IsLate (tries_of (acts ++ past)) → Every IsLate (tries_of (on_act (λ a. record a { tries = new_try a s ∷ a.tries }) acts ++ past))
late-try s [] past r all = all
late-try s (a ∷ acts) past r all = (r, all)

late-spent : (c : ℕ) (acts past : List Act) → Every IsLate (tries_of (acts ++ past)) → Every IsLate (tries_of (on_act (λ a. record a { spent = Some c }) acts ++ past))
late-spent c [] past all = all
late-spent c (a ∷ acts) past all = all

late-close : (o : Outcome) (b : Book) → Every IsLate (tries b) → Every IsLate (tries (close o b))
late-close (outcome.Spent c) b all = late-spent c b.acts b.past all
late-close o b all = late-on (finish o) (λ t k. k) b.acts b.past all

module _ (script : List ℕ → Tree) (me : ℕ) (ever : List Post) where
  late-enter : (b : Book) (f : Effect) → FitsBook script me b f → RestsOn me ever b f → Every IsLate (tries b) → Every IsLate (tries (enter f b))
  late-enter b (effect.Run n) f r all = all
  late-enter b (effect.Act i x t k c y) f r all = all
  late-enter b (effect.Try i s) f r all = late-try s b.acts b.past r all
  late-enter b (effect.Got k v) f r all = late-on (gain (Got v)) (λ t h. h) b.acts b.past all
  late-enter b (effect.Acked k) f r all = late-on (gain Stored) (λ t h. h) b.acts b.past all
  late-enter b (effect.End i o) f r all = late-close o b all
  late-enter b g f r all = absurd f

  pub late : (log : List Effect) → IsTidy script me log → HaveCauses me ever log → Every IsLate (tries (book log))
  unfolding book
  late [] h v = tt
  late (f ∷ log) h v = late-enter (book log) f h.1 v.1 (late log h.0 v.0)
