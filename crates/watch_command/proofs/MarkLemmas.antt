-- The joined marks of logs whose effects are in range are in range.
use Rattle.watch_command.proofs.Names.{Every, TimeParts, Effect, AreEffects, Mark, floor_of, AreMarks, Opening, Open, Shut, Wanting, Media, Stands, logs_of, ◌≡◌, ℕ, suc, Bool, true, false, List, [], ◌∷◌, ◌++◌, map, filter, reverse, sym, subst, Option, None, if◌then◌else◌, not, reverse-append, IsMark, Complete, archive_of, complete_from, is_complete}
use Rattle.repository_log.specs.Logs.{marks}
use Rattle.repository_log.proofs.MarkLemmas.{marks-in-range}
use Rattle.archive_store.specs.Joined.{all_firsts, firsts, is_floor, is_new, joined, last_log, met_after}
use Rattle.archive_store.proofs.ArchiveLemmas.{joined-unretired}

-- ---- of all marks of a list

module _ (P : Mark → Type 0) where
  every-append : (xs ys : List Mark) → Every P xs → Every P ys → Every P (xs ++ ys)
  every-append [] ys h k = k
  every-append (x ∷ xs) ys h k = (h.0, every-append xs ys h.1 k)

  every-reverse : (xs : List Mark) → Every P xs → Every P (reverse xs)
  every-reverse [] h = tt
  every-reverse (x ∷ xs) h = subst (Every P) (sym (reverse-append (x ∷ []) xs)) (every-append (reverse xs) (x ∷ []) (every-reverse xs h.1) (h.0, tt))

  every-if : (b : Bool) (x : Mark) (xs ys : List Mark) → P x → Every P xs → Every P ys → Every P (if b then x ∷ xs else ys)
  every-if true x xs ys h k l = (h, k)
  every-if false x xs ys h k l = l

  every-kept : (p : Mark → Bool) (xs : List Mark) → Every P xs → Every P (filter p xs)
  every-kept p [] h = tt
  every-kept p (x ∷ xs) h = every-if (p x) x (filter p xs) (filter p xs) h.0 (every-kept p xs h.1) (every-kept p xs h.1)

  every-firsts : (floor : Option TimeParts) (met xs : List Mark) → Every P xs → Every P (firsts floor met xs)
  unfolding firsts
  every-firsts floor met [] h = tt
  every-firsts floor met (x ∷ xs) h = every-if (is_new floor met x) x (firsts floor (x ∷ met) xs) (firsts floor met xs) h.0 (every-firsts floor (x ∷ met) xs h.1) (every-firsts floor met xs h.1)

  every-all : (floor : Option TimeParts) (met : List Mark) (logs : List (List Mark)) → Every (Every P) logs → Every P (all_firsts floor met logs)
  unfolding all_firsts
  every-all floor met [] h = tt
  every-all floor met (log ∷ logs) h = every-append (firsts floor met log) (all_firsts floor (met_after floor met log) logs) (every-firsts floor met log h.0) (every-all floor (met_after floor met log) logs h.1)

  every-last : (logs : List (List Mark)) → Every (Every P) logs → Every P (last_log logs)
  unfolding last_log
  every-last [] h = tt
  every-last (log ∷ []) h = h.0
  every-last (log ∷ next ∷ logs) h = every-last (next ∷ logs) h.1

  every-joined : (logs : List (List Mark)) → Every (Every P) logs → Every P (joined logs)
  every-joined logs h = every-append _ (filter (λ f. not (is_floor f)) (last_log logs)) (every-all _ _ logs h) (every-kept (λ f. not (is_floor f)) (last_log logs) (every-last logs h))

-- ---- of the logs of volumes

either-marks : (b : Bool) (v : ℕ) (log : List Effect) (cs : List Complete) → AreMarks (marks log) → Every AreMarks (map (λ c. marks c.log) cs) →
    Every AreMarks (map (λ c. marks c.log) (if b then record { volume = v; log = log } ∷ cs else cs))
either-marks true v log cs h k = (h, k)
either-marks false v log cs h k = k

complete-marks : (v : ℕ) (logs : List (List Effect)) → Every AreEffects logs → Every AreMarks (map (λ c. marks c.log) (complete_from v logs))
complete-marks v [] h = tt
complete-marks v (log ∷ logs) h = either-marks (is_complete v log) v log (complete_from (suc v) logs) (marks-in-range log h.0) (complete-marks (suc v) logs h.1)

module _ {M : Type 0} (w : Media M) {g : _} where
  logs-in-range : (os : List (Opening M g)) → Every (Stands w) os → Every AreEffects (logs_of os)
  logs-in-range [] h = tt
  logs-in-range (Open store effects ∷ os) h = (h.0.1, logs-in-range os h.1)
  logs-in-range (Shut medium cause ∷ os) h = (tt, logs-in-range os h.1)
  logs-in-range (Wanting medium ∷ os) h = (tt, logs-in-range os h.1)

  -- the marks of a repository's archive are in range
  pub archive-in-range : (os : List (Opening M g)) (shown : List Mark) → Every (Stands w) os → shown ≡ joined (archive_of (logs_of os)) → AreMarks (reverse shown)
  archive-in-range os shown h is =
      subst (λ l. AreMarks (reverse l)) (sym is)
      (every-reverse IsMark (joined (archive_of (logs_of os))) (every-joined IsMark (archive_of (logs_of os)) (complete-marks 0 (logs_of os) (logs-in-range os h))))

-- and have no floor
pub archive-unretired : (logs : List (List Effect)) (shown : List Mark) → shown ≡ joined (archive_of logs) → floor_of (reverse shown) ≡ None
archive-unretired logs shown is = joined-unretired (archive_of logs) (last_log (archive_of logs)) shown is
