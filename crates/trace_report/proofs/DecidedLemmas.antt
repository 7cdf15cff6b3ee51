-- Which attempts are committed, by what the log of each repository says first.
use Rattle.trace_report.proofs.Names.{slice_get, cond-true, cond-false, NodeId, repository, StampParts, Effect, RunLogs, committed, has_commit, has_learned, Opened, AreDecided, AreEach, learned_in_some, said_at, Said, AreFirsts, is_decided, is_learned, logs_by, ◌≡◌, ℕ, zero, suc, ◌+◌, ◌≤◌, ◌<◌, Bool, true, false, List, [], ◌∷◌, ◌++◌, length, reverse, refl, sym, ◌∙◌, ap, subst, Option, Some, None, ◌&&◌, ◌||◌, arith, nat_le, common_steps, length-append, in_run, log_of, some_of}
use Rattle.std.specs.FinMap as finite
use Rattle.trace_report.proofs.FirstLemmas.{commit-is, learned-is}

-- ---- one log more

pub each-more : (logs : ℕ → List Effect) (firsts : List Said) (said : Said) → AreEach logs firsts → AreFirsts (logs (suc (length firsts))) said → AreEach logs (firsts ++ said ∷ [])
each-more logs [] said h f = (f, tt)
each-more logs (x ∷ firsts) said h f = (h.0, each-more (λ r. logs (suc r)) firsts said h.1 f)

pub firsts-step : (logs : List Opened) (old new : List Said) (first : Said) (below : ℕ) (log : List Effect) (n : NodeId) → length old ≡ below → AreEach (λ r. reverse (logs_by logs (repository r))) old → n ≡ repository (below + 1) → log ≡ logs_by logs n →
    AreFirsts (reverse log) first → new ≡ old ++ first ∷ [] → (length new ≡ below + 1) × AreEach (λ r. reverse (logs_by logs (repository r))) new
firsts-step logs old new first below log n count each node at said is =
    let next : below + 1 ≡ suc (length old) = omega (arith, count) in (
      ap length is ∙ length-append old (first ∷ []) ∙ ap (λ k. k + 1) count,
      subst (AreEach (λ r. reverse (logs_by logs (repository r)))) (sym is)
          (each-more (λ r. reverse (logs_by logs (repository r))) old first each (subst (λ l. AreFirsts (reverse l) first) (at ∙ ap (logs_by logs) (node ∙ ap repository next)) said)),
    )

-- ---- the home's log

each-at : (logs : ℕ → List Effect) (firsts : List Said) (p : ℕ) (said : Said) → AreEach logs firsts → slice_get firsts p ≡ Some said → AreFirsts (logs (suc p)) said
each-at logs [] p said h is = absurd (let e : ◌≡◌ {A = Option Said} None (Some said) = is in cc)
each-at logs (x ∷ firsts) zero said h is = let e : Some x ≡ Some said = is in let s : x ≡ said = cc in subst (AreFirsts (logs 1)) s h.0
each-at logs (x ∷ firsts) (suc p) said h is = each-at (λ r. logs (suc r)) firsts p said h.1 is

get-within : (firsts : List Said) (p : ℕ) (said : Said) → slice_get firsts p ≡ Some said → suc p ≤ length firsts
get-within [] p said is = absurd (let e : ◌≡◌ {A = Option Said} None (Some said) = is in cc)
get-within (x ∷ firsts) zero said is = omega arith
get-within (x ∷ firsts) (suc p) said is = let h = get-within firsts p said is in omega (arith, h)

get-beyond : (firsts : List Said) (p : ℕ) → slice_get firsts p ≡ None → length firsts ≤ p
get-beyond [] p is = omega arith
get-beyond (x ∷ firsts) zero is = absurd (let e : ◌≡◌ {A = Option Said} (Some x) None = is in cc)
get-beyond (x ∷ firsts) (suc p) is = let h = get-beyond firsts p is in omega (arith, h)

in-bounds : (most r : ℕ) → r ≤ most → 1 ≤ r → (nat_le 1 r && nat_le r most) ≡ true
in-bounds most r h low = grind (arith, common_steps)

out-bounds : (most r : ℕ) → most < r → (nat_le 1 r && nat_le r most) ≡ false
out-bounds most r h = grind (arith, common_steps)

pub home-said : (k : RunLogs) (firsts : List Said) (home : ℕ) (said : Said) → AreDecided k firsts → said_at firsts home ≡ Some said → (in_run k home ≡ true) × AreFirsts (log_of k home) said
home-said k firsts zero said d is = absurd (let e : ◌≡◌ {A = Option Said} None (Some said) = is in cc)
home-said k firsts (suc p) said d is =
    let within = get-within firsts p said is in let count = d.count in
    (in-bounds k.repositories (suc p) (omega (arith, within, count)) (omega arith), each-at (log_of k) firsts p said d.each is)

pub home-none : (k : RunLogs) (firsts : List Said) (home : ℕ) → AreDecided k firsts → said_at firsts home ≡ None → in_run k home ≡ false
home-none k firsts zero d is = refl
home-none k firsts (suc p) d is =
    let beyond = get-beyond firsts p is in let count = d.count in
    out-bounds k.repositories (suc p) (omega (arith, beyond, count))

-- ---- the logs of a run

or-rotate : (a b c : Bool) → (a || (b || c)) ≡ (b || (a || c))
or-rotate true true c = refl
or-rotate true false c = refl
or-rotate false b c = refl

some-first : (n : ℕ) (f : ℕ → Bool) → some_of (suc n) f ≡ (f 1 || some_of n (λ r. f (suc r)))
unfolding some_of
some-first zero f = refl
some-first (suc n) f = ap (λ z. f (suc (suc n)) || z) (some-first n f) ∙ or-rotate (f (suc (suc n))) (f 1) (some_of n (λ r. f (suc r)))

learned-some : (s : StampParts) (logs : ℕ → List Effect) (firsts : List Said) → AreEach logs firsts → learned_in_some firsts s ≡ some_of (length firsts) (λ r. has_learned s (logs r))
unfolding some_of
learned-some s logs [] h = refl
learned-some s logs (said ∷ firsts) h =
    ap (λ z. is_learned z || learned_in_some firsts s) (h.0 s) ∙ ap (λ z. z || learned_in_some firsts s) (sym (learned-is (logs 1) s))
    ∙ ap (λ z. has_learned s (logs 1) || z) (learned-some s (λ r. logs (suc r)) firsts h.1)
    ∙ sym (some-first (length firsts) (λ r. has_learned s (logs r)))

-- ---- both

module _ (k : RunLogs) (firsts : List Said) (d : AreDecided k firsts) (s : StampParts) where
  pub committed-home : (said : Said) (r : Bool) → said_at firsts s.home ≡ Some said → r ≡ is_decided (finite.get said s) → r ≡ committed k s
  unfolding committed
  committed-home said r is h =
      let at = home-said k firsts s.home said d is in
      h ∙ ap is_decided (at.1 s) ∙ sym (commit-is (log_of k s.home) s)
      ∙ sym (cond-true (in_run k s.home) (has_commit s (log_of k s.home)) (some_of k.repositories (λ r. has_learned s (log_of k r))) at.0)

  pub committed-away : (r : Bool) → said_at firsts s.home ≡ None → r ≡ learned_in_some firsts s → r ≡ committed k s
  unfolding committed
  committed-away r is h =
      h ∙ learned-some s (log_of k) firsts d.each ∙ ap (λ n. some_of n (λ r. has_learned s (log_of k r))) d.count
      ∙ sym (cond-false (in_run k s.home) (has_commit s (log_of k s.home)) (some_of k.repositories (λ r. has_learned s (log_of k r))) (home-none k firsts s.home d is))
