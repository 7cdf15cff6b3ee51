-- what holds of every try of a log with a past: its answers were asked for, they and its End came in messages
use Rattle.broker_laws.proofs.Names.{StampParts, Effect, Outcome, Post, Act, Book, Try, book, close, enter, finish, gain, new_try, on_try, open_of, open_try, tries, tries_of, EndFits, EndsBy, FitsBook, IsAsked, IsTidy, MayTry, AnswerCame, EndCame, RestsOn, HaveCauses, OfOpen, at, Every, Answer, Got, Stored, Tree, stop, ◌≡◌, ℕ, ◌+◌, length, List, [], ◌∷◌, ◌++◌, refl, sym, ◌∙◌, ap, subst, Option, Some, None, ◌⊎◌, inl, inr, AreKinds, IsFitting, IsPlayed, IsProven}
use Rattle.effect_form.specs.declared.effects.Effect.TheVariants as effect
use Rattle.effect_form.specs.declared.outcomes.Outcome.TheVariants as outcome
use Rattle.broker_laws.proofs.Moves.Moved.{same, tried, gained, ended}
use Rattle.broker_laws.proofs.Moves.{Moved, at-open, clocks, moved}

pub no-split : (pre post : List Answer) (a : Answer) → [] ≡ pre ++ (a ∷ post) → ⊥
no-split [] post a e = cc e
no-split (x ∷ pre) post a e = cc e

unfoldable tail : List Answer → List Answer
tail [] = []
tail (a ∷ xs) = xs

unfoldable head_or : Answer → List Answer → Answer
head_or d [] = d
head_or d (a ∷ xs) = a

-- an answer of a longer list is the new one, or an old one
pub last-split : (xs : List Answer) (a : Answer) (pre post : List Answer) (b : Answer) → xs ++ (a ∷ []) ≡ pre ++ (b ∷ post) → ((xs ≡ pre) × (a ≡ b)) ⊎ ((more : List Answer) × (xs ≡ pre ++ (b ∷ more)))
unfolding tail head_or
last-split [] a [] post b e = inl (refl, ap (λ xs. head_or a xs) e)
last-split [] a (y ∷ pre) post b e = absurd (no-split pre post b (ap (λ xs. tail xs) e))
last-split (x ∷ xs) a [] post b e = inr (xs, ap (λ y. y ∷ xs) (ap (λ zs. head_or a zs) e))
last-split (x ∷ xs) a (y ∷ pre) post b e =
    let h : x ≡ y = ap (λ zs. head_or a zs) e in
    elim (last-split xs a pre post b (ap (λ zs. tail zs) e)) [ inl k ↦ inl (ap (λ z. z ∷ xs) h ∙ ap (λ zs. y ∷ zs) k.0, k.1) | inr k ↦ inr (k.0, ap (λ z. z ∷ xs) h ∙ ap (λ zs. y ∷ zs) k.1) ]

some-of : {o p : Outcome} → Some o ≡ Some p → o ≡ p
some-of e = cc

module _ (script : List ℕ → Tree) (me : ℕ) where
  each-moved : (P : Try → Type 0) → ((t : Try) → t.answers ≡ [] → t.end ≡ None → P t) →
      ((t : Try) (a : Answer) → t.end ≡ None → IsAsked script t a → P t → P (gain a t)) →
      ((t : Try) (o : Outcome) → t.end ≡ None → EndsBy script t o → P t → P (finish o t)) →
      {ts us : List Try} → Moved script ts us → Every P ts → Every P us
  each-moved P n g e same all = all
  each-moved P n g e (tried t new a x) all = (n t a x, all)
  each-moved P n g e (gained t a x h) all = (g t a x h all.0, all.1)
  each-moved P n g e (ended t o x h) all = (e t o x h all.0, all.1)

  fitting : (t : Try) (a : Answer) → IsAsked script t a → IsFitting (stop (script t.task.script) t.answers) a
  fitting t (Got v) h = subst (λ s. IsFitting s (Got v)) (sym h.1) tt
  fitting t Stored h = subst (λ s. IsFitting s Stored) (sym h.2) tt

  played-new : (t : Try) → t.answers ≡ [] → t.end ≡ None → IsPlayed script t
  played-new t a e = record { asked = λ pre post x k. absurd (no-split pre post x (sym a ∙ k)); ends = λ o k. let no : None ≡ Some o = sym e ∙ k in cc }

  kinds-gain : (t : Try) (a : Answer) → IsAsked script t a → AreKinds (script t.task.script) t.answers → AreKinds (script t.task.script) (t.answers ++ (a ∷ []))
  kinds-gain t a h p pre post x k =
      elim (last-split t.answers a pre post x k) [
        | inl w ↦ subst (λ xs. IsFitting (stop (script t.task.script) xs) x) w.0 (subst (λ y. IsFitting (stop (script t.task.script) t.answers) y) w.1 (fitting t a h))
        | inr w ↦ p pre w.0 x w.1
      ]

  played-gain : (t : Try) (a : Answer) → t.end ≡ None → IsAsked script t a → IsPlayed script t → IsPlayed script (gain a t)
  played-gain t a e h p = record { asked = kinds-gain t a h p.asked; ends = λ o k. let no : None ≡ Some o = sym e ∙ k in cc }

  ends-same : (t : Try) (o p : Outcome) → EndsBy script t o → EndsBy script (finish p t) o
  ends-same t outcome.Committed p h = h
  ends-same t o p h = h

  played-end : (t : Try) (o : Outcome) → t.end ≡ None → EndsBy script t o → IsPlayed script t → IsPlayed script (finish o t)
  played-end t o e h p = record { asked = p.asked; ends = λ x k. ends-same t x o (subst (λ y. EndsBy script t y) (some-of k) h) }

  -- answers were asked and ended tries
  pub played : (log : List Effect) → IsTidy script me log → Every (IsPlayed script) (tries (book log))
  unfolding book
  played [] h = tt
  played (f ∷ log) h = each-moved (IsPlayed script) played-new played-gain played-end (moved script me (book log) f (clocks script me log h.0) h.1) (played log h.0)

  -- answers have evidence
  each-open : (P : Try → Type 0) (g : Try → Try) (acts past : List Act) (t : Try) → open_of acts ≡ Some t → (t.end ≡ None → P t → P (g t)) →
      Every P (tries_of (acts ++ past)) → Every P (tries_of (on_try g acts ++ past))
  each-open P g acts past t e step all =
      let w = at-open g acts past t e in
      let old : Every P (t ∷ w.0) = subst (λ xs. Every P xs) w.1 all in
      subst (λ xs. Every P xs) (sym w.2) (step w.3 old.0, old.1)

  module _ (ever : List Post) where
    of-open : (P : Try → Type 0) (o : Option Try) (t : Try) → o ≡ Some t → OfOpen o P → P t
    of-open P o t e h = let k : OfOpen (Some t) P = subst (λ x. OfOpen x P) e h in k

    proven-new : (t : Try) → t.answers ≡ [] → t.end ≡ None → IsProven me ever t
    proven-new t a e = record { answers = λ pre post x k. absurd (no-split pre post x (sym a ∙ k)); ends = λ o k. let no : None ≡ Some o = sym e ∙ k in cc }

    proven-gain : (t : Try) (a : Answer) (k : ℕ) → k ≡ length t.answers + 1 → AnswerCame me ever (at t.stamp k) a → t.end ≡ None → IsProven me ever t → IsProven me ever (gain a t)
    proven-gain t a k n h e p = record { answers = all; ends = λ o x. let no : None ≡ Some o = sym e ∙ x in cc }
      where
        all : (pre post : List Answer) (b : Answer) → t.answers ++ (a ∷ []) ≡ pre ++ (b ∷ post) → AnswerCame me ever (at t.stamp (length pre + 1)) b
        all pre post b x =
            elim (last-split t.answers a pre post b x) [
              | inl w ↦ subst (λ y. AnswerCame me ever (at t.stamp (length pre + 1)) y) w.1
                  (subst (λ xs. AnswerCame me ever (at t.stamp (length xs + 1)) a) w.0
                  (subst (λ j. AnswerCame me ever (at t.stamp j) a) n h))
              | inr w ↦ p.answers pre w.0 b w.1
            ]

    came-same : (t : Try) (o p : Outcome) → EndCame me ever t o → EndCame me ever (finish p t) o
    came-same t outcome.Committed p h = h
    came-same t o p h = h

    proven-end : (t : Try) (o : Outcome) → EndCame me ever t o → IsProven me ever t → IsProven me ever (finish o t)
    proven-end t o h p = record { answers = p.answers; ends = λ x k. came-same t x o (subst (λ y. EndCame me ever t y) (some-of k) h) }

    proven-try : (i : ℕ) (s : StampParts) (b : Book) (acts past : List Act) (P : Act → Type 0) → MayTry i acts P →
        Every (IsProven me ever) (tries_of (acts ++ past)) →
        Every (IsProven me ever) (tries_of ((enter (effect.Try i s) (record b { acts = acts; past = past })).acts ++ past))
    proven-try i s b [] past P h all = all
    proven-try i s b (a ∷ acts) past P h all = (proven-new (new_try a s) refl refl, all)

    proven-close : (i : ℕ) (o : Outcome) (b : Book) → EndFits script i o b → OfOpen (open_try b) (λ t. EndCame me ever t o) →
        Every (IsProven me ever) (tries b) → Every (IsProven me ever) (tries (close o b))
    proven-close i outcome.Committed b h v all = each-open _ (finish outcome.Committed) b.acts b.past h.0 h.1 (λ e p. proven-end h.0 outcome.Committed (of-open _ (open_try b) h.0 h.1 v) p) all
    proven-close i (outcome.Withdrawn l) b h v all = each-open _ (finish (outcome.Withdrawn l)) b.acts b.past h.0 h.1 (λ e p. proven-end h.0 (outcome.Withdrawn l) tt p) all
    proven-close i (outcome.Failed l k) b h v all = each-open _ (finish (outcome.Failed l k)) b.acts b.past h.0 h.1 (λ e p. proven-end h.0 (outcome.Failed l k) tt p) all
    proven-close i (outcome.Spent c) b h v all = spent b.acts b.past all
      where
        spent : (acts past : List Act) → Every (IsProven me ever) (tries_of (acts ++ past)) →
            Every (IsProven me ever) (tries_of ((close (outcome.Spent c) (record b { acts = acts; past = past })).acts ++ past))
        spent [] past all = all
        spent (a ∷ acts) past all = all
    proven-close i f b h v all = each-open _ (finish f) b.acts b.past h.0 h.1 (λ e p. proven-end h.0 f (of-open _ (open_try b) h.0 h.1 v) p) all

    proven-kept : (b : Book) (f : Effect) → FitsBook script me b f → RestsOn me ever b f → Every (IsProven me ever) (tries b) → Every (IsProven me ever) (tries (enter f b))
    proven-kept b (effect.Run n) h v all = all
    proven-kept b (effect.Act i x t k y z) h v all = all
    proven-kept b (effect.Try i s) h v all = proven-try i s b b.acts b.past _ h all
    proven-kept b (effect.Got k w) h v all = each-open _ (gain (Got w)) b.acts b.past h.0 h.1 (λ e p. proven-gain h.0 (Got w) k h.2.0 (of-open _ (open_try b) h.0 h.1 v) e p) all
    proven-kept b (effect.Acked k) h v all = each-open _ (gain Stored) b.acts b.past h.0 h.1 (λ e p. proven-gain h.0 Stored k h.2.0 (of-open _ (open_try b) h.0 h.1 v) e p) all
    proven-kept b (effect.End i o) h v all = proven-close i o b h v all
    proven-kept b f h v all = absurd h

    pub proven : (log : List Effect) → IsTidy script me log → HaveCauses me ever log → Every (IsProven me ever) (tries (book log))
    unfolding book
    proven [] h v = tt
    proven (f ∷ log) h v = proven-kept (book log) f h.1 v.1 (proven log h.0 v.0)
