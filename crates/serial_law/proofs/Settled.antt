-- what is settled is committed, or not, as the home says
use Rattle.serial_law.proofs.Names.{StampParts, Decision, Post, settle_of, Has, RunLogs, committed, has_commit, has_learned, in_run, log_of, some_of, RunFacts, is_commit, marks, ◌≡◌, ℕ, Bool, true, false, List, refl, sym, ◌∙◌, ap, subst, Some, ◌⊎◌, inl, inr, if◌then◌else◌, false≢true, true≢false}
use Rattle.effect_form.specs.declared.effects.Effect.TheVariants as effect
use Rattle.pseudo_time.specs.declared.decisions.Decision.TheVariants as decision
use Rattle.serial_law.proofs.LogLemmas.{SettledBy, OnlyLearns, settle-marks, has-commit, commit-has, has-learned, learned-has, in-low, in-high, in-both, some-yes, some-is}

if-true : (b x y : Bool) → b ≡ true → x ≡ true → (if b then x else y) ≡ true
if-true true x y h k = k
if-true false x y h k = absurd (false≢true h)

if-false : (b x y : Bool) → b ≡ false → y ≡ true → (if b then x else y) ≡ true
if-false true x y h k = absurd (true≢false h)
if-false false x y h k = k

if-cases : (b x y : Bool) → (if b then x else y) ≡ true → ((b ≡ true) × (x ≡ true)) ⊎ (y ≡ true)
if-cases true x y h = inl (refl, h)
if-cases false x y h = inr h

pub committed-home : (k : RunLogs) (ever : List Post) → RunFacts k ever → (s : StampParts) → in_run k s.home ≡ true → Has (effect.Decide s decision.Committed) (log_of k s.home) → committed k s ≡ true
unfolding committed
committed-home k ever f s h j =
    if-true (in_run k s.home) (has_commit s (log_of k s.home)) _ h
    (commit-has s (log_of k s.home) (record { decides = λ d i. f.decided_once s d decision.Committed i j; learns = λ c i. f.learned_away s.home s c h i refl }) j)

committed-learned : (k : RunLogs) (ever : List Post) → RunFacts k ever → (s : StampParts) (r : ℕ) → in_run k s.home ≡ false → in_run k r ≡ true → Has (effect.Learn s true) (log_of k r) →
    committed k s ≡ true
unfolding committed
committed-learned k ever f s r h i j =
    let d = f.learned r s true i j in
    let only : OnlyLearns s (log_of k r) = record {
      decides = λ e g. absurd (true≢false (sym (ap (λ x. in_run k x) (sym (f.decided_home r s e i g)) ∙ i) ∙ h));
      learns = λ c g. let w = f.learned r s c i g in w.2 ∙ f.decided_once s w.0 d.0 w.1 d.1 ∙ sym d.2;
    } in
    if-false (in_run k s.home) _ (some_of k.repositories (λ r. has_learned s (log_of k r))) h
    (some-yes k.repositories (λ r. has_learned s (log_of k r)) r (in-low k r i) (in-high k r i) (learned-has s (log_of k r) only j))

committed-is : (k : RunLogs) (s : StampParts) → committed k s ≡ true →
    ((in_run k s.home ≡ true) × Has (effect.Decide s decision.Committed) (log_of k s.home)) ⊎ ((r : ℕ) × (in_run k r ≡ true) × Has (effect.Learn s true) (log_of k r))
unfolding committed
committed-is k s h =
    elim (if-cases (in_run k s.home) (has_commit s (log_of k s.home)) (some_of k.repositories (λ r. has_learned s (log_of k r))) h) [
      | inl e ↦ inl (e.0, has-commit s (log_of k s.home) e.1)
      | inr e ↦ let w = some-is k.repositories (λ r. has_learned s (log_of k r)) e in
          inr (w.0, in-both k w.0 w.1 w.2, has-learned s (log_of k w.0) w.3)
    ]

commits : (d : Decision) → true ≡ is_commit d → d ≡ decision.Committed
commits decision.Committed h = refl
commits _ h = absurd (true≢false h)

commit-at : (k : RunLogs) (s : StampParts) (d : Decision) → Has (effect.Decide s d) (log_of k s.home) → true ≡ is_commit d → Has (effect.Decide s decision.Committed) (log_of k s.home)
commit-at k s d h e = subst (λ x. Has (effect.Decide s x) (log_of k s.home)) (commits d e) h

-- a committed stamp has its Decide Committed at home, wherever that is
pub at-home : (k : RunLogs) (ever : List Post) → RunFacts k ever → (s : StampParts) → committed k s ≡ true → Has (effect.Decide s decision.Committed) (log_of k s.home)
at-home k ever f s h =
    elim (committed-is k s h) [ inl e ↦ e.1 | inr e ↦ let w = f.learned e.0 s true e.1 e.2 in commit-at k s w.0 w.1 w.2 ]

-- what a log of the run shows as settled was decided so at home
home-says : (k : RunLogs) (ever : List Post) → RunFacts k ever → (r : ℕ) (s : StampParts) (c : Bool) → in_run k r ≡ true → SettledBy (log_of k r) s c →
    (d : Decision) × Has (effect.Decide s d) (log_of k s.home) × (c ≡ is_commit d)
home-says k ever f r s c i (inl h) = (h.0, subst (λ x. Has (effect.Decide s h.0) (log_of k x)) (f.decided_home r s h.0 i h.1) h.1, h.2)
home-says k ever f r s c i (inr h) = f.learned r s c i h

pub sure-yes : (k : RunLogs) (ever : List Post) → RunFacts k ever → (r : ℕ) (s : StampParts) → in_run k r ≡ true → settle_of (marks (log_of k r)) s ≡ Some true → committed k s ≡ true
sure-yes k ever f r s i h =
    let by : SettledBy (log_of k r) s true = settle-marks (log_of k r) s true h in
    let d = home-says k ever f r s true i by in
    cases (in_run k s.home) refl (commit-at k s d.0 d.1 d.2) by
  where
    cases : (b : Bool) → in_run k s.home ≡ b → Has (effect.Decide s decision.Committed) (log_of k s.home) → SettledBy (log_of k r) s true → committed k s ≡ true
    cases true e here by = committed-home k ever f s e here
    cases false e here (inr j) = committed-learned k ever f s r e i j
    cases false e here (inl j) = absurd (true≢false (sym (ap (λ x. in_run k x) (sym (f.decided_home r s j.0 i j.1)) ∙ i) ∙ e))

pub sure-no : (k : RunLogs) (ever : List Post) → RunFacts k ever → (r : ℕ) (s : StampParts) → in_run k r ≡ true → settle_of (marks (log_of k r)) s ≡ Some false → committed k s ≡ false
sure-no k ever f r s i h = cases (committed k s) refl
  where
    cases : (b : Bool) → committed k s ≡ b → committed k s ≡ false
    cases false e = e
    cases true e =
        let d = home-says k ever f r s false i (settle-marks (log_of k r) s false h) in
        absurd (false≢true (d.2 ∙ f.decided_once s d.0 decision.Committed d.1 (at-home k ever f s e)))
