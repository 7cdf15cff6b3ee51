-- Lines up to a `done`, and lines past blank ones, where more lines follow.
use Rattle.plan_form.proofs.Names.{◌≡◌, ℕ, true, false, cond, List, [], ◌∷◌, ◌++◌, refl, sym, ap, ◌∙◌, by_test, is_blank, is_done, has_done, before_done, behind_done, past_blanks}

-- ---- past blank lines

pub past_blanks-none : (ls more : List (List ℕ)) → past_blanks ls ≡ [] → past_blanks (ls ++ more) ≡ past_blanks more
past_blanks-none [] more e = refl
past_blanks-none (l ∷ ls) more e =
    by_test (is_blank l) (λ p. cond p (past_blanks ls) (l ∷ ls) ≡ [] → cond p (past_blanks (ls ++ more)) (l ∷ (ls ++ more)) ≡ past_blanks more)
    (λ is h. past_blanks-none ls more h)
    (λ is h. absurd (cc)) e

pub past_blanks-some : (ls more rest : List (List ℕ)) (line : List ℕ) → past_blanks ls ≡ line ∷ rest → past_blanks (ls ++ more) ≡ line ∷ (rest ++ more)
past_blanks-some [] more rest line e = absurd (cc)
past_blanks-some (l ∷ ls) more rest line e =
    by_test (is_blank l) (λ p. cond p (past_blanks ls) (l ∷ ls) ≡ line ∷ rest → cond p (past_blanks (ls ++ more)) (l ∷ (ls ++ more)) ≡ line ∷ (rest ++ more))
    (λ is h. past_blanks-some ls more rest line h)
    (λ is h. ap (λ z. z ++ more) h) e

pub past_blanks-line : (line : List ℕ) (rest : List (List ℕ)) → is_blank line ≡ false → past_blanks (line ∷ rest) ≡ line ∷ rest
past_blanks-line line rest is = ap (λ p. cond p (past_blanks rest) (line ∷ rest)) is

pub past_blanks-blank : (line : List ℕ) → is_blank line ≡ true → past_blanks (line ∷ []) ≡ []
past_blanks-blank line is = ap (λ p. cond p [] (line ∷ [])) is

-- ---- up to `done`

pub has_done-more : (ls more : List (List ℕ)) → has_done ls ≡ true → has_done (ls ++ more) ≡ true
has_done-more [] more e = absurd (cc)
has_done-more (l ∷ ls) more e =
    by_test (is_done l) (λ p. cond p true (has_done ls) ≡ true → cond p true (has_done (ls ++ more)) ≡ true) (λ is h. refl) (λ is h. has_done-more ls more h) e

pub before_done-more : (ls more : List (List ℕ)) → has_done ls ≡ true → before_done (ls ++ more) ≡ before_done ls
before_done-more [] more e = absurd (cc)
before_done-more (l ∷ ls) more e =
    by_test (is_done l) (λ p. cond p true (has_done ls) ≡ true → cond p [] (l ∷ before_done (ls ++ more)) ≡ cond p [] (l ∷ before_done ls))
    (λ is h. refl) (λ is h. ap (λ z. l ∷ z) (before_done-more ls more h)) e

pub behind_done-more : (ls more : List (List ℕ)) → has_done ls ≡ true → behind_done (ls ++ more) ≡ behind_done ls ++ more
behind_done-more [] more e = absurd (cc)
behind_done-more (l ∷ ls) more e =
    by_test (is_done l) (λ p. cond p true (has_done ls) ≡ true → cond p (ls ++ more) (behind_done (ls ++ more)) ≡ cond p ls (behind_done ls) ++ more)
    (λ is h. refl) (λ is h. behind_done-more ls more h) e

pub not_done : (l : List ℕ) (ls : List (List ℕ)) → has_done (l ∷ ls) ≡ false → (is_done l ≡ false) × (has_done ls ≡ false)
not_done l ls e =
    by_test (is_done l) (λ p. cond p true (has_done ls) ≡ false → (p ≡ false) × (has_done ls ≡ false)) (λ is h. absurd (cc)) (λ is h. (refl, h)) e

pub has_done-behind : (ls more : List (List ℕ)) → has_done ls ≡ false → has_done (ls ++ more) ≡ has_done more
has_done-behind [] more e = refl
has_done-behind (l ∷ ls) more e = let k = not_done l ls e in ap (λ p. cond p true (has_done (ls ++ more))) k.0 ∙ has_done-behind ls more k.1

pub before_done-behind : (ls more : List (List ℕ)) → has_done ls ≡ false → before_done (ls ++ more) ≡ ls ++ before_done more
before_done-behind [] more e = refl
before_done-behind (l ∷ ls) more e =
    let k = not_done l ls e in ap (λ p. cond p [] (l ∷ before_done (ls ++ more))) k.0 ∙ ap (λ z. l ∷ z) (before_done-behind ls more k.1)

pub behind_done-behind : (ls more : List (List ℕ)) → has_done ls ≡ false → behind_done (ls ++ more) ≡ behind_done more
behind_done-behind [] more e = refl
behind_done-behind (l ∷ ls) more e = let k = not_done l ls e in ap (λ p. cond p (ls ++ more) (behind_done (ls ++ more))) k.0 ∙ behind_done-behind ls more k.1

pub has_done-snoc : (ls : List (List ℕ)) (line : List ℕ) → has_done ls ≡ false → is_done line ≡ false → has_done (ls ++ line ∷ []) ≡ false
has_done-snoc ls line none is = has_done-behind ls (line ∷ []) none ∙ ap (λ p. cond p true false) is

-- the lines up to the first `done`, and those behind it
pub split_at_done : (ls : List (List ℕ)) → has_done ls ≡ true → (front : List (List ℕ)) × (ls ≡ front ++ behind_done ls) × (has_done front ≡ true) × (behind_done front ≡ []) × (before_done ls ≡ before_done front)
split_at_done [] e = absurd (cc)
split_at_done (l ∷ ls) e =
    by_test (is_done l)
    (λ p. is_done l ≡ p → cond p true (has_done ls) ≡ true
    → (front : List (List ℕ)) × (l ∷ ls ≡ front ++ cond p ls (behind_done ls)) × (has_done front ≡ true) × (behind_done front ≡ []) × (cond p [] (l ∷ before_done ls) ≡ before_done front))
    (λ is k h. (l ∷ [], refl, ap (λ p. cond p true false) is, ap (λ p. cond p [] []) is, sym (ap (λ p. cond p [] (l ∷ [])) is)))
    (λ is k h. let s = split_at_done ls h in (
      l ∷ s.0,
      ap (λ z. l ∷ z) s.1,
      ap (λ p. cond p true (has_done s.0)) is ∙ s.2,
      ap (λ p. cond p s.0 (behind_done s.0)) is ∙ s.3,
      ap (λ z. l ∷ z) s.4 ∙ sym (ap (λ p. cond p [] (l ∷ before_done s.0)) is),
    )) refl e
