-- A log with all versions that ever stood has the marks that its histories tell, and says of attempts what the log itself says.
use Rattle.serial_law.proofs.Names.{Has, repository, StampParts, NodeId, Effect, settle_of, all_stood, has_start, knows, marks, RunLogs, committed, has_commit, has_learned, in_run, log_of, some_of, whole_log, whole_run, with_puts, ◌≡◌, ℕ, zero, suc, Bool, true, false, List, [], ◌∷◌, map, refl, ◌∙◌, ap, subst, ◌⊎◌, inl, inr, ◌||◌, if◌then◌else◌, with_old}
use Rattle.effect_form.specs.declared.effects.Effect.TheVariants.{Put, Stretch, Decide, Learn}
use Rattle.effect_form.specs.declared.effects.Effect.TheVariants as effect
use Rattle.object_history.specs.declared.marks.Mark.TheVariants as mark

-- ---- marks

pub marks-with : (met l : List Effect) → marks (with_puts met l) ≡ with_old (marks met) (marks l)
unfolding with_puts with_old
marks-with met [] = refl
marks-with met (Put o x v ∷ l) =
    elim (has_start o x (marks (with_puts met l))) as (λ b. marks (if b then with_puts met l else Put o x v ∷ with_puts met l) ≡ (if b then marks (with_puts met l) else mark.Put o x v ∷ marks (with_puts met l))) [ true ↦ refl | false ↦ refl ]
    ∙ ap (λ z. if has_start o x z then z else mark.Put o x v ∷ z) (marks-with met l)
marks-with met (Stretch o x ∷ l) = marks-with met l
marks-with met (Decide s d ∷ l) = marks-with met l
marks-with met (Learn s c ∷ l) = marks-with met l
marks-with met (effect.Mark at ∷ l) = marks-with met l
marks-with met (f ∷ l) = marks-with met l

pub marks-whole : (olds : List (List Effect)) (log : List Effect) → marks (whole_log olds log) ≡ all_stood (map marks olds) (marks log)
marks-whole [] log = refl
marks-whole (old ∷ olds) log = marks-with (whole_log olds log) old ∙ ap (λ m. with_old m (marks old)) (marks-whole olds log)

settle-with : (met l : List Effect) (s : StampParts) → settle_of (marks (with_puts met l)) s ≡ settle_of (marks met) s
unfolding with_puts settle_of
settle-with met [] s = refl
settle-with met (Put o x v ∷ l) s = choose (has_start o x (marks (with_puts met l))) ∙ settle-with met l s
  where
    choose : (b : Bool) → settle_of (marks (if b then with_puts met l else Put o x v ∷ with_puts met l)) s ≡ settle_of (marks (with_puts met l)) s
    choose true = refl
    choose false = refl
settle-with met (f ∷ l) s = settle-with met l s

pub settle-whole : (olds : List (List Effect)) (log : List Effect) (s : StampParts) → settle_of (marks (whole_log olds log)) s ≡ settle_of (marks log) s
settle-whole [] log s = refl
settle-whole (old ∷ olds) log s = settle-with (whole_log olds log) old s ∙ settle-whole olds log s

-- ---- effects

-- it is a Put
abbrev pub IsPut : Effect → Type 0
IsPut (Put o x v) = Unit {0}
IsPut _ = ⊥

with-has : (met l : List Effect) (f : Effect) → Has f met → Has f (with_puts met l)
unfolding with_puts
with-has met [] f h = h
with-has met (Put o x v ∷ l) f h = (elim (has_start o x (marks (with_puts met l))) as (λ b. Has f (with_puts met l) → Has f (if b then with_puts met l else Put o x v ∷ with_puts met l)) [ true ↦ λ k. k | false ↦ λ k. inr k ]) (with-has met l f h)
with-has met (g ∷ l) f h = with-has met l f h

pub whole-has : (olds : List (List Effect)) (log : List Effect) (f : Effect) → Has f log → Has f (whole_log olds log)
whole-has [] log f h = h
whole-has (old ∷ olds) log f h = with-has (whole_log olds log) old f (whole-has olds log f h)

deeper : (met l : List Effect) (f g : Effect) → Has f met ⊎ (Has f l × IsPut f) → Has f met ⊎ (Has f (g ∷ l) × IsPut f)
deeper met l f g (inl k) = inl k
deeper met l f g (inr k) = inr (inr k.0, k.1)

has-with : (met l : List Effect) (f : Effect) → Has f (with_puts met l) → Has f met ⊎ (Has f l × IsPut f)
unfolding with_puts
has-with met [] f h = inl h
has-with met (Put o x v ∷ l) f h = choose (has_start o x (marks (with_puts met l))) h (λ k. has-with met l f k)
  where
    choose : (b : Bool) → Has f (if b then with_puts met l else Put o x v ∷ with_puts met l) → (Has f (with_puts met l) → Has f met ⊎ (Has f l × IsPut f)) → Has f met ⊎ (Has f (Put o x v ∷ l) × IsPut f)
    choose true k rest = deeper met l f (Put o x v) (rest k)
    choose false (inl e) rest = inr (inl e, subst IsPut e tt)
    choose false (inr k) rest = deeper met l f (Put o x v) (rest k)
has-with met (g ∷ l) f h = deeper met l f g (has-with met l f h)

-- what the whole log has the log has, or it is a Put of an older one
pub has-whole : (olds : List (List Effect)) (log : List Effect) (f : Effect) → Has f (whole_log olds log) → Has f log ⊎ (((old : List Effect) × Has old olds × Has f old) × IsPut f)
has-whole [] log f h = inl h
has-whole (old ∷ olds) log f h = elim (has-with (whole_log olds log) old f h) [
  | inl k ↦ elim (has-whole olds log f k) [ inl j ↦ inl j | inr j ↦ inr ((j.0.0, inr j.0.1, j.0.2), j.1) ]
  | inr k ↦ inr ((old, inl refl, k.0), k.1)
]

pub other-whole : (olds : List (List Effect)) (log : List Effect) (f : Effect) → (IsPut f → ⊥) → Has f (whole_log olds log) → Has f log
other-whole olds log f other h = elim (has-whole olds log f h) [ inl k ↦ k | inr k ↦ absurd (other k.1) ]

-- a Put of the whole log stands in one of the logs
pub put-once : (olds : List (List Effect)) (log : List Effect) (f : Effect) → Has f (whole_log olds log) → (l : List Effect) × Has l (log ∷ olds) × Has f l
put-once olds log f h = elim (has-whole olds log f h) [ inl k ↦ (log, inl refl, k) | inr k ↦ (k.0.0, inr k.0.1, k.0.2) ]

-- ---- attempts

module _ (s : StampParts) where
  knows-with : (met l : List Effect) → knows (with_puts met l) s ≡ knows met s
  unfolding with_puts knows
  knows-with met [] = refl
  knows-with met (Put o x v ∷ l) = (elim (has_start o x (marks (with_puts met l))) as (λ b. knows (if b then with_puts met l else Put o x v ∷ with_puts met l) s ≡ knows (with_puts met l) s) [ true ↦ refl | false ↦ refl ]) ∙ knows-with met l
  knows-with met (g ∷ l) = knows-with met l

  commit-with : (met l : List Effect) → has_commit s (with_puts met l) ≡ has_commit s met
  unfolding with_puts has_commit
  commit-with met [] = refl
  commit-with met (Put o x v ∷ l) = choose (has_start o x (marks (with_puts met l))) ∙ commit-with met l
    where
      choose : (b : Bool) → has_commit s (if b then with_puts met l else Put o x v ∷ with_puts met l) ≡ has_commit s (with_puts met l)
      choose true = refl
      choose false = refl
  commit-with met (g ∷ l) = commit-with met l

  learned-with : (met l : List Effect) → has_learned s (with_puts met l) ≡ has_learned s met
  unfolding with_puts has_learned
  learned-with met [] = refl
  learned-with met (Put o x v ∷ l) = choose (has_start o x (marks (with_puts met l))) ∙ learned-with met l
    where
      choose : (b : Bool) → has_learned s (if b then with_puts met l else Put o x v ∷ with_puts met l) ≡ has_learned s (with_puts met l)
      choose true = refl
      choose false = refl
  learned-with met (g ∷ l) = learned-with met l

  commit-whole : (olds : List (List Effect)) (log : List Effect) → has_commit s (whole_log olds log) ≡ has_commit s log
  commit-whole [] log = refl
  commit-whole (old ∷ olds) log = commit-with (whole_log olds log) old ∙ commit-whole olds log

  learned-whole : (olds : List (List Effect)) (log : List Effect) → has_learned s (whole_log olds log) ≡ has_learned s log
  learned-whole [] log = refl
  learned-whole (old ∷ olds) log = learned-with (whole_log olds log) old ∙ learned-whole olds log

  module _ (olds : NodeId → List (List Effect)) (k : RunLogs) where
    some-whole : (n : ℕ) → some_of n (λ r. has_learned s (log_of (whole_run olds k) r)) ≡ some_of n (λ r. has_learned s (log_of k r))
    unfolding some_of
    some-whole zero = refl
    some-whole (suc n) = λ i. learned-whole (olds (repository (suc n))) (log_of k (suc n)) i || some-whole n i

    -- the same stamps are committed
    pub committed-whole : committed (whole_run olds k) s ≡ committed k s
    unfolding committed
    committed-whole = λ i. if in_run k s.home then commit-whole (olds (repository s.home)) (log_of k s.home) i else some-whole k.repositories i
