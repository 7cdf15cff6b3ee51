-- logs, their marks, and tests on them
use Rattle.std.proofs.lemmas.Grind.{common_steps}
use Rattle.serial_law.proofs.Names.{TimeParts, StampParts, ObjectId, Value, Effect, Decision, Mark, settle_of, Has, same_stamp, RunLogs, has_commit, has_learned, in_run, log_of, marks_at, some_of, is_commit, marks, knows, and-both, and-left, and-right, same_stamp-is, same_stamp-of, ◌≡◌, ℕ, ◌≤◌, zero, suc, Bool, true, false, List, [], ◌∷◌, refl, sym, ◌∙◌, ap, Option, Some, None, ◌⊎◌, inl, inr, ◌||◌, ◌&&◌, not, subst, nat_le, arith, if◌then◌else◌, false≢true, or_left, or_right, or_cases, leb-true, le-leb, or_else}
use Rattle.effect_form.specs.declared.effects.Effect.TheVariants as effect
use Rattle.pseudo_time.specs.declared.decisions.Decision.TheVariants as decision
use Rattle.serial_law.proofs.Puts.{PutAt}

put-path : (o p : ObjectId) (x y : TimeParts) (v w : Value) → p ≡ o → y ≡ x → w ≡ v → effect.Put p y w ≡ effect.Put o x v
put-path o p x y v w e f g = λ i. effect.Put (e i) (f i) (g i)

-- a put of the log is one of its marks
pub put-marks : (log : List Effect) (o : ObjectId) (x : TimeParts) (v : Value) → Has (effect.Put o x v) log → PutAt o x v (marks log)
put-marks [] o x v h = h
put-marks (effect.Put a y w ∷ log) o x v (inl e) = inl (cc (sym e), cc (sym e), cc (sym e))
put-marks (effect.Put a y w ∷ log) o x v (inr h) = inr (put-marks log o x v h)
put-marks (f ∷ log) o x v (inl e) = absurd (cc e)
put-marks (f ∷ log) o x v (inr h) = put-marks log o x v h

pub marks-put : (log : List Effect) (o : ObjectId) (x : TimeParts) (v : Value) → PutAt o x v (marks log) → Has (effect.Put o x v) log
marks-put [] o x v h = h
marks-put (effect.Put a y w ∷ log) o x v (inl h) = inl (put-path o a x y v w h.0 h.1 h.2)
marks-put (effect.Put a y w ∷ log) o x v (inr h) = inr (marks-put log o x v h)
marks-put (f ∷ log) o x v h = inr (marks-put log o x v h)

settle-one : (b : Bool) (u : Option Bool) (c d : Bool) → (if b then or_else u d else u) ≡ Some c → (u ≡ Some c) ⊎ ((b ≡ true) × (d ≡ c))
settle-one true None c d h = inr (refl, cc h)
settle-one true (Some e) c d h = inl h
settle-one false u c d h = inl h

-- a settled stamp has its Decide or its Learn
abbrev pub SettledBy : List Effect → StampParts → Bool → Type 0
SettledBy log s c = ((d : Decision) × Has (effect.Decide s d) log × (c ≡ is_commit d)) ⊎ Has (effect.Learn s c) log

older : (f : Effect) (log : List Effect) (s : StampParts) (c : Bool) → SettledBy log s c → SettledBy (f ∷ log) s c
older f log s c (inl h) = inl (h.0, inr h.1, h.2)
older f log s c (inr h) = inr (inr h)

decide-path : (s t : StampParts) (d : Decision) → t ≡ s → effect.Decide t d ≡ effect.Decide s d
decide-path s t d e = ap (λ u. effect.Decide u d) e

learn-path : (s t : StampParts) (c d : Bool) → t ≡ s → d ≡ c → effect.Learn t d ≡ effect.Learn s c
learn-path s t c d e f = λ i. effect.Learn (e i) (f i)

pub settle-marks : (log : List Effect) (s : StampParts) (c : Bool) → settle_of (marks log) s ≡ Some c → SettledBy log s c
unfolding settle_of
settle-marks [] s c h = absurd (cc h)
settle-marks (effect.Decide t d ∷ log) s c h =
    elim (settle-one (same_stamp t s) (settle_of (marks log) s) c (is_commit d) h) [
      | inl e ↦ older (effect.Decide t d) log s c (settle-marks log s c e)
      | inr e ↦ inl (d, inl (decide-path s t d (same_stamp-is t s e.0)), sym e.1)
    ]
settle-marks (effect.Learn t d ∷ log) s c h =
    elim (settle-one (same_stamp t s) (settle_of (marks log) s) c d h) [
      | inl e ↦ older (effect.Learn t d) log s c (settle-marks log s c e)
      | inr e ↦ inr (inl (learn-path s t c d (same_stamp-is t s e.0) e.1))
    ]
settle-marks (f ∷ log) s c h = older f log s c (settle-marks log s c h)

pub has-commit : (s : StampParts) (log : List Effect) → has_commit s log ≡ true → Has (effect.Decide s decision.Committed) log
unfolding has_commit
has-commit s [] h = absurd (false≢true h)
has-commit s (effect.Decide t decision.Committed ∷ log) h =
    elim (or_cases (same_stamp t s && not (knows log s)) (has_commit s log) h) [
      | inl e ↦ inl (decide-path s t decision.Committed (same_stamp-is t s (and-left (same_stamp t s) _ e)))
      | inr e ↦ inr (has-commit s log e)
    ]
has-commit s (f ∷ log) h = inr (has-commit s log h)

same-decide : (s t : StampParts) (d e : Decision) → effect.Decide t e ≡ effect.Decide s d → t ≡ s
same-decide s t d e h = cc h

-- a Decide or Learn of the stamp stands in the log
abbrev pub Known : List Effect → StampParts → Type 0
Known log s = ((d : Decision) × Has (effect.Decide s d) log) ⊎ ((c : Bool) × Has (effect.Learn s c) log)

-- what a log knows stands in it
skip : (f : Effect) (log : List Effect) (s : StampParts) → Known log s → Known (f ∷ log) s
skip f log s (inl h) = inl (h.0, inr h.1)
skip f log s (inr h) = inr (h.0, inr h.1)

pub knows-has : (log : List Effect) (s : StampParts) → knows log s ≡ true → Known log s
unfolding knows
knows-has [] s h = absurd (false≢true h)
knows-has (effect.Decide t d ∷ log) s h = elim (or_cases (same_stamp t s) (knows log s) h) [ inl e ↦ inl (d, inl (decide-path s t d (same_stamp-is t s e))) | inr e ↦ skip (effect.Decide t d) log s (knows-has log s e) ]
knows-has (effect.Learn t c ∷ log) s h =
    elim (or_cases (same_stamp t s) (knows log s) h) [ inl e ↦ inr (c, inl (learn-path s t c c (same_stamp-is t s e) refl)) | inr e ↦ skip (effect.Learn t c) log s (knows-has log s e) ]
knows-has (f ∷ log) s h = skip f log s (knows-has log s h)

commits-only : (d : Decision) → is_commit d ≡ true → d ≡ decision.Committed
commits-only decision.Committed h = refl
commits-only _ h = absurd (false≢true h)

-- the log decides the stamp as committed alone, and learns nothing of it
pub record OnlyCommits (s : StampParts) (log : List Effect) : Type 0 where
  pub decides : (d : Decision) → Has (effect.Decide s d) log → is_commit d ≡ true
  pub learns : (c : Bool) → Has (effect.Learn s c) log → ⊥

less-commits : (s : StampParts) (f : Effect) (log : List Effect) → OnlyCommits s (f ∷ log) → OnlyCommits s log
less-commits s f log o = record { decides = λ d h. o.decides d (inr h); learns = λ c h. o.learns c (inr h) }

pub commit-has : (s : StampParts) (log : List Effect) → OnlyCommits s log → Has (effect.Decide s decision.Committed) log → has_commit s log ≡ true
unfolding has_commit
commit-has s [] o h = absurd h
commit-has s (effect.Decide t decision.Committed ∷ log) o (inl e) = first (knows log s) refl (commit-has s log (less-commits s (effect.Decide t decision.Committed) log o))
  where
    first : (b : Bool) → knows log s ≡ b → (Has (effect.Decide s decision.Committed) log → has_commit s log ≡ true) → ((same_stamp t s && not (knows log s)) || has_commit s log) ≡ true
    first true k rest =
        elim (knows-has log s k) [
          | inl d ↦ or_right (same_stamp t s && not (knows log s)) (has_commit s log) (rest (subst (λ z. Has (effect.Decide s z) log) (commits-only d.0 (o.decides d.0 (inr d.1))) d.1))
          | inr c ↦ absurd (o.learns c.0 (inr c.1))
        ]
    first false k rest = or_left (same_stamp t s && not (knows log s)) (has_commit s log) (and-both (same_stamp t s) (not (knows log s)) (same_stamp-of t s (same-decide s t decision.Committed decision.Committed e)) (ap not k))
commit-has s (effect.Decide t decision.Committed ∷ log) o (inr h) = or_right (same_stamp t s && not (knows log s)) (has_commit s log) (commit-has s log (less-commits s (effect.Decide t decision.Committed) log o) h)
commit-has s (f ∷ log) o (inl e) = absurd (cc e)
commit-has s (f ∷ log) o (inr h) = commit-has s log (less-commits s f log o) h

pub has-learned : (s : StampParts) (log : List Effect) → has_learned s log ≡ true → Has (effect.Learn s true) log
unfolding has_learned
has-learned s [] h = absurd (false≢true h)
has-learned s (effect.Learn t true ∷ log) h =
    elim (or_cases (same_stamp t s && not (knows log s)) (has_learned s log) h) [
      | inl e ↦ inl (learn-path s t true true (same_stamp-is t s (and-left (same_stamp t s) _ e)) refl)
      | inr e ↦ inr (has-learned s log e)
    ]
has-learned s (f ∷ log) h = inr (has-learned s log h)

same-learn : (s t : StampParts) (c d : Bool) → effect.Learn t d ≡ effect.Learn s c → t ≡ s
same-learn s t c d h = cc h

-- the log learns of the stamp that it is committed, and doesn't decide it
pub record OnlyLearns (s : StampParts) (log : List Effect) : Type 0 where
  pub decides : (d : Decision) → Has (effect.Decide s d) log → ⊥
  pub learns : (c : Bool) → Has (effect.Learn s c) log → c ≡ true

less-learns : (s : StampParts) (f : Effect) (log : List Effect) → OnlyLearns s (f ∷ log) → OnlyLearns s log
less-learns s f log o = record { decides = λ d h. o.decides d (inr h); learns = λ c h. o.learns c (inr h) }

pub learned-has : (s : StampParts) (log : List Effect) → OnlyLearns s log → Has (effect.Learn s true) log → has_learned s log ≡ true
unfolding has_learned
learned-has s [] o h = absurd h
learned-has s (effect.Learn t true ∷ log) o (inl e) = first (knows log s) refl (learned-has s log (less-learns s (effect.Learn t true) log o))
  where
    first : (b : Bool) → knows log s ≡ b → (Has (effect.Learn s true) log → has_learned s log ≡ true) → ((same_stamp t s && not (knows log s)) || has_learned s log) ≡ true
    first true k rest =
        elim (knows-has log s k) [
          | inl d ↦ absurd (o.decides d.0 (inr d.1))
          | inr c ↦ or_right (same_stamp t s && not (knows log s)) (has_learned s log) (rest (subst (λ z. Has (effect.Learn s z) log) (o.learns c.0 (inr c.1)) c.1))
        ]
    first false k rest = or_left (same_stamp t s && not (knows log s)) (has_learned s log) (and-both (same_stamp t s) (not (knows log s)) (same_stamp-of t s (same-learn s t true true e)) (ap not k))
learned-has s (effect.Learn t true ∷ log) o (inr h) = or_right (same_stamp t s && not (knows log s)) (has_learned s log) (learned-has s log (less-learns s (effect.Learn t true) log o) h)
learned-has s (f ∷ log) o (inl e) = absurd (cc e)
learned-has s (f ∷ log) o (inr h) = learned-has s log (less-learns s f log o) h

-- repositories of the run
pub in-low : (k : RunLogs) (r : ℕ) → in_run k r ≡ true → 1 ≤ r
in-low k r h = leb-true 1 r (and-left (nat_le 1 r) _ h)

pub in-high : (k : RunLogs) (r : ℕ) → in_run k r ≡ true → r ≤ k.repositories
in-high k r h = leb-true r k.repositories (and-right (nat_le 1 r) _ h)

pub in-both : (k : RunLogs) (r : ℕ) → 1 ≤ r → r ≤ k.repositories → in_run k r ≡ true
in-both k r h j = and-both (nat_le 1 r) (nat_le r k.repositories) (le-leb 1 r h) (le-leb r k.repositories j)

pub le-cases : (r n : ℕ) → r ≤ suc n → (r ≡ suc n) ⊎ (r ≤ n)
le-cases r n h = (elim (nat_le r n) as (λ b. nat_le r n ≡ b → (r ≡ suc n) ⊎ (r ≤ n)) [ true ↦ λ e. inr (grind (arith, common_steps)) | false ↦ λ e. inl (grind (arith, common_steps)) ]) refl

pub some-yes : (n : ℕ) (f : ℕ → Bool) (r : ℕ) → 1 ≤ r → r ≤ n → f r ≡ true → some_of n f ≡ true
unfolding some_of
some-yes zero f r h j k = absurd (omega (arith, h, j))
some-yes (suc n) f r h j k =
    elim (le-cases r n j) [ inl e ↦ or_left (f (suc n)) (some_of n f) (ap f (sym e) ∙ k) | inr e ↦ or_right (f (suc n)) (some_of n f) (some-yes n f r h e k) ]

pub some-is : (n : ℕ) (f : ℕ → Bool) → some_of n f ≡ true → (r : ℕ) × (1 ≤ r) × (r ≤ n) × (f r ≡ true)
unfolding some_of
some-is zero f h = absurd (false≢true h)
some-is (suc n) f h =
    elim (or_cases (f (suc n)) (some_of n f) h) [ inl e ↦ (suc n, omega arith, omega arith, e) | inr e ↦ let w = some-is n f e in (w.0, w.1, (let le = w.2 in omega (arith, le)), w.3) ]

-- the marks of an object are those of its repository's log, or none
if-in : (b : Bool) (x y : List Mark) → b ≡ true → x ≡ (if b then x else y)
if-in true x y h = refl
if-in false x y h = absurd (false≢true h)

pub marks-in : (k : RunLogs) (o : ObjectId) → in_run k o.repository ≡ true → marks (log_of k o.repository) ≡ marks_at k o
unfolding marks_at
marks-in k o h = if-in (in_run k o.repository) (marks (log_of k o.repository)) [] h

pub marks-cases : (k : RunLogs) (o : ObjectId) (P : List Mark → Type 0) → (in_run k o.repository ≡ true → P (marks (log_of k o.repository))) → P [] → P (marks_at k o)
unfolding marks_at
marks-cases k o P h j = (elim (in_run k o.repository) as (λ b. in_run k o.repository ≡ b → P (if b then marks (log_of k o.repository) else [])) [ true ↦ λ e. h e | false ↦ λ e. j ]) refl
