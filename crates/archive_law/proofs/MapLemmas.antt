-- The archive tells the plain map before a stamp, where the facts hold that keep a run serial.
use Rattle.std.proofs.lemmas.Bool.Decides.{nat_tests}
use Rattle.archive_law.proofs.Names.{Has, lt, StampParts, TimeParts, ObjectId, Value, Nothing, Post, Mark, Seen, is_committed, is_settled, scan, settle_of, value_of, marks, last_below, first_open, RunLogs, before, in_run, log_of, RunFacts, TellsMap, ◌≡◌, ◌==◌, ◌≤◌, ℕ, nat_lt, Bool, true, false, List, if◌then◌else◌, refl, sym, ◌∙◌, ap, subst, Option, Some, None, ◌&&◌, not, arith, true≢false, false≢true, stamp_lt, lt-own, lt-stamps, lt-steps, eq-from, Standing, same-scan, standing, stands-has, same-found, same-values, committed, marks_at, marks-in, first_of, value_in}
use Rattle.value_form.specs.Objects.{value_at}
use Rattle.object_history.specs.declared.marks.Mark.TheVariants as mark
use Rattle.archive_store.proofs.ArchiveLemmas.{closed-by}
use Rattle.serial_law.proofs.Before.{before-holds}
use Rattle.serial_law.proofs.Settled.{sure-no, sure-yes}
use Rattle.archive_law.proofs.JoinedLemmas.{starts-from}
use Rattle.archive_law.proofs.ListedLemmas.{passes-none}

-- ---- below the first pseudotime of a stamp

same-tests : (a b : Bool) → (a ≡ true → b ≡ true) → (b ≡ true → a ≡ true) → a ≡ b
same-tests true true h k = refl
same-tests true false h k = sym (h refl)
same-tests false true h k = k refl
same-tests false false h k = refl

below-first : (x : TimeParts) (s : StampParts) → 1 ≤ x.step → lt x (first_of s) ≡ stamp_lt x.stamp s
below-first x s one = same-tests (lt x (first_of s)) (stamp_lt x.stamp s) lower (λ h. lt-stamps x (first_of s) h)
  where
    own : lt x (first_of s) ≡ true → x.stamp ≡ s → ⊥
    own h e =
        let k : nat_lt x.step 1 ≡ true = sym (lt-steps s x.step 1) ∙ subst (λ z. lt (record { stamp = z; step = x.step }) (first_of s) ≡ true) e h in
        grind (arith, nat_tests)

    lower : lt x (first_of s) ≡ true → stamp_lt x.stamp s ≡ true
    lower h = (elim (stamp_lt x.stamp s) as (λ b. stamp_lt x.stamp s ≡ b → stamp_lt x.stamp s ≡ true) [ true ↦ λ e. e | false ↦ λ e. absurd (own h (lt-own x (first_of s) h e)) ]) refl

-- ---- an archive of a repository of the run

pub record Archives (k : RunLogs) (r : ℕ) (m : List Mark) : Type 0 where
  pub inside : in_run k r ≡ true
  pub has : (o : ObjectId) (x : TimeParts) (v : Value) → Has (mark.Put o x v) (marks (log_of k r)) → Has (mark.Put o x v) m
  pub from : (o : ObjectId) (x : TimeParts) (v : Value) → Has (mark.Put o x v) m → Has (mark.Put o x v) (marks (log_of k r))
  pub home : (o : ObjectId) (x : TimeParts) (v : Value) → Has (mark.Put o x v) m → o.repository ≡ r
  pub step : (o : ObjectId) (x : TimeParts) (v : Value) → Has (mark.Put o x v) m → 1 ≤ x.step
  -- a decision that it has of an attempt is that of a log of the run
  pub sure : (s : StampParts) (c : Bool) → settle_of m s ≡ Some c → (q : ℕ) × (in_run k q ≡ true) × (settle_of (marks (log_of k q)) s ≡ Some c)

module _ (k : RunLogs) (ever : List Post) (f : RunFacts k ever) (r : ℕ) (m : List Mark) (a : Archives k r m) (s : StampParts) where
  abbrev at : TimeParts
  at = first_of s

  abbrev told : TimeParts → Bool
  told x = lt x at && is_committed (settle_of m x.stamp)

  abbrev sure : TimeParts → Bool
  sure x = stamp_lt x.stamp s && committed k x.stamp

  module _ (closed : first_open m (first_of s) ≡ None) where
    settled : (o : ObjectId) (x : TimeParts) (v : Value) → Has (mark.Put o x v) m → lt x at ≡ true → is_settled (settle_of m x.stamp) ≡ true
    settled o x v h low =
        go (is_settled (settle_of m x.stamp)) (lt x at) low
        (passes-none (λ y. (lt y at && not (is_settled (settle_of m y.stamp))) && true) o m x v (closed-by m at (first_open m at) refl closed o) h)
      where
        go : (b c : Bool) → c ≡ true → ((c && not b) && true) ≡ false → b ≡ true
        go true c e h = refl
        go false true e h = absurd (true≢false h)
        go false false e h = absurd (false≢true e)

    agrees : (x : TimeParts) (u : Option Bool) → settle_of m x.stamp ≡ u → is_settled u ≡ true → is_committed (settle_of m x.stamp) ≡ committed k x.stamp
    agrees x None e h = absurd (false≢true h)
    agrees x (Some true) e h = (let q = a.sure x.stamp true e in ap is_committed e ∙ sym (sure-yes k ever f q.0 x.stamp q.1 q.2))
    agrees x (Some false) e h = (let q = a.sure x.stamp false e in ap is_committed e ∙ sym (sure-no k ever f q.0 x.stamp q.1 q.2))

    tests : (o : ObjectId) (x : TimeParts) (v : Value) → Has (mark.Put o x v) m → told x ≡ sure x
    tests o x v h = go (lt x at) refl
      where
        same : lt x at ≡ stamp_lt x.stamp s
        same = below-first x s (a.step o x v h)

        go : (b : Bool) → lt x at ≡ b → (lt x at && is_committed (settle_of m x.stamp)) ≡ (stamp_lt x.stamp s && committed k x.stamp)
        go true e = λ i. same i && agrees x (settle_of m x.stamp) refl (settled o x v h e) i
        go false e = ap (λ c. c && is_committed (settle_of m x.stamp)) e ∙ sym (ap (λ c. c && committed k x.stamp) (sym same ∙ e))

    -- an object of the repository
    of-own : (o : ObjectId) → o.repository ≡ r → value_of (last_below m o (first_of s)) ≡ value_at (before k s) o
    of-own o home =
        let log : List Mark = marks (log_of k r) in
        let here : in_run k o.repository ≡ true = ap (in_run k) home ∙ a.inside in
        let same : marks_at k o ≡ log = sym (marks-in k o here) ∙ ap (λ z. marks (log_of k z)) home in
        let held : value_at (before k s) o ≡ value_of (scan sure o log) = subst (λ z. value_at (before k s) o ≡ value_of (scan sure o z)) same (before-holds k ever f s o) in
        ap value_of (same-scan told sure o m (starts-from (λ x. told x ≡ sure x) o m (tests o)))
        ∙ same-values (scan sure o log) (scan sure o m) (same-found sure o log m (f.distinct r a.inside) (a.from o) (λ q e. a.has o q.start q.value (stood log (scan sure o log) (standing sure o log) q e))) ∙ sym held
      where
        stood : (log : List Mark) (res : Option Seen) → Standing o log res → (q : Seen) → res ≡ Some q → Has (mark.Put o q.start q.value) log
        stood log None t q e = absurd (cc e)
        stood log (Some z) t q e = let same : z ≡ q = cc e in subst (λ (y : Seen). Has (mark.Put o y.start y.value) log) same (stands-has o log z t)

    -- another has none
    of-others : (o : ObjectId) → (o.repository == r) ≡ false → value_of (last_below m o (first_of s)) ≡ Nothing
    of-others o other = go (scan told o m) (standing told o m)
      where
        yes : (a b : ℕ) → a ≡ b → (a == b) ≡ true
        yes a b e = grind (arith, nat_tests)

        go : (res : Option Seen) → Standing o m res → value_of res ≡ Nothing
        go None t = refl
        go (Some q) t = absurd (true≢false (sym (yes o.repository r (a.home o q.start q.value (stands-has o m q t))) ∙ other))

    told-at : (o : ObjectId) → value_of (last_below m o (first_of s)) ≡ value_in r (before k s) o
    told-at o = go (o.repository == r) refl
      where
        go : (b : Bool) → (o.repository == r) ≡ b → value_of (last_below m o (first_of s)) ≡ (if b then value_at (before k s) o else Nothing)
        go true e = of-own o (eq-from o.repository r e)
        go false e = of-others o e

  pub tells-map : TellsMap r m s (before k s)
  tells-map closed o = told-at closed o
