-- How it is told what came of a question to an archive or of a watch, and what is handed back of it.
use Rattle.swallow_top.proofs.Names.{AllZip-long, Opening, Media, HasOpened, medium_in, Kept, AllKept, kept_under, ShelfSight, first_names, logs_of, all-kept, back-all, Rule, AskedNothing, IsOfStamp, TellsAnswer, TellsReplay, TellsSnapshot, TellsWatch, Sinking, Ends, ◌⊎◌, ◌≤◌, inl, inr, ℕ, Bool, List, Option, Some, None, length, map, ap, sym, subst, ◌∙◌, arith, IsLawful, TellsOutcome}
use Rattle.std.specs.Prelude.{IfSome}
use Rattle.command_words.specs.Words.{IsSnapshot}
use Rattle.archive_promise.specs.Outcome.{Outcome}
use Rattle.archive_promise.specs.Outcome.TheVariants.{Told, Refused, Fallen, NoMemory}
use Rattle.archive_promise.specs.Question.{Question}
use Rattle.archive_promise.specs.Question.TheVariants.{AsOf, Audit}
use Rattle.archive_promise.specs.Answers.{Answers, AnswersOver, TookNothing, asked_of}
use Rattle.archive_promise.specs.Repositories.{Shows, SnapshotOver, Volumes, all_logs}
use Rattle.archive_promise.specs.Snapped.{IsLawfulSnapshot}
use Rattle.archive_promise.specs.Watches.{StopsBefore, WatchesOver}
use Rattle.archive_promise.proofs.KeptLemmas.{watch-kept}
use Rattle.archive_promise.proofs.AnsweredLemmas.{is-lawful}
use Rattle.archive_promise.proofs.RepositoryLemmas.{as-many-logs, repositories-kept}
use Rattle.archive_promise.proofs.SnappedLemmas.{lawful-snapshot}
use Rattle.replay_command.proofs.NodeLemmas.{replay-kept}
use Rattle.replay_command.specs.Replayed.{ReplayOver}
use Rattle.archive_promise.proofs.WatchedLemmas.{counts-on}

module _ {M : Type 0} (w : Media M) (old new : ShelfSight) (kept : List (Kept M)) (s : Sinking) (status : ℕ) where
  asked-nothing : (r : Outcome) → TookNothing w old new kept r → TellsOutcome r status s → AskedNothing w old new kept s status
  asked-nothing r none told = let short = subst (λ x. TellsOutcome x status s) none.wanting told in record { wanting = short.0; unwritten = short.1; none = none.none; unasked = none.unasked; left = none.left }

  lawful-answer : {g : _} (q : Question) (openings : List (Opening M g)) (r : Outcome) → IsOfStamp q → Answers q openings r → IsLawful q (logs_of openings) r
  lawful-answer q openings (Told text) first came = is-lawful q (logs_of openings) (Told text) first came.1
  lawful-answer q openings (Refused line) first came = is-lawful q (logs_of openings) (Refused line) first came.1
  lawful-answer (AsOf r at) openings (Fallen line) first came = tt
  lawful-answer (Audit o) openings (Fallen line) first came = tt
  lawful-answer (AsOf r at) openings NoMemory first came = tt
  lawful-answer (Audit o) openings NoMemory first came = tt

  pub tells-answer : (q : Question) (r : Outcome) → IsOfStamp q → TookNothing w old new kept r ⊎ AnswersOver w old new q kept r → TellsOutcome r status s → AskedNothing w old new kept s status ⊎ TellsAnswer w old new q kept s status
  tells-answer q r first (inl none) told = inl (asked-nothing r none told)
  tells-answer q r first (inr over) told = inr (record { outcome = r; over = over; lawful = lawful-answer q over.openings r first over.came; told = told })

  pub tells-watch : (repository : ℕ) (rule : Rule) (r : Outcome) → TookNothing w old new kept r ⊎ (StopsBefore w old new repository rule kept r ⊎ WatchesOver w old new repository rule kept r) → TellsOutcome r status s →
      AskedNothing w old new kept s status ⊎ TellsWatch w old new repository rule kept s status
  tells-watch repository rule r (inl none) told = inl (asked-nothing r none told)
  tells-watch repository rule r (inr over) told = inr (record { outcome = r; over = over; lawful = λ o log puts text ready. counts-on rule repository (logs_of o.openings) log puts text ready; told = told })

  lawful-map : (clock : Option ℕ) (vs : List (Volumes w)) (r : Outcome) → Shows w clock vs r → IsLawfulSnapshot clock (all_logs vs) r
  lawful-map clock vs (Told text) came = lawful-snapshot clock (all_logs vs) (Told text) (let a = as-many-logs w vs in let b = came.count in omega (arith, a, b)) came.gives
  lawful-map clock vs (Refused line) came = tt
  lawful-map clock vs (Fallen line) came = tt
  lawful-map clock vs NoMemory came = tt

  pub tells-snapshot : (clock : Option ℕ) (r : Outcome) → TookNothing w old new kept r ⊎ SnapshotOver w old new clock kept r → TellsOutcome r status s → AskedNothing w old new kept s status ⊎ TellsSnapshot w old new clock kept s status
  tells-snapshot clock r (inl none) told = inl (asked-nothing r none told)
  tells-snapshot clock r (inr over) told = inr (record { outcome = r; over = over; lawful = lawful-map clock over.volumes r over.came; told = told })

  pub tells-replay : (values : Bool) (r : Outcome) → TookNothing w old new kept r ⊎ ReplayOver w old new values kept r → TellsOutcome r status s → AskedNothing w old new kept s status ⊎ TellsReplay w old new values kept s status
  tells-replay values r (inl none) told = inl (asked-nothing r none told)
  tells-replay values r (inr over) told = inr (record { outcome = r; over = over; told = told })

  -- each medium that was taken is handed back
  pub tellsreplay-kept : (values : Bool) → TellsReplay w old new values kept s status → AllKept old new kept
  tellsreplay-kept values h = replay-kept w old new h.over.volumes kept h.over.are

  pub tellssnapshot-kept : (clock : Option ℕ) → TellsSnapshot w old new clock kept s status → AllKept old new kept
  tellssnapshot-kept clock h = repositories-kept w old new h.over.volumes kept h.over.are

  pub tellswatch-kept : (repository : ℕ) (rule : Rule) → TellsWatch w old new repository rule kept s status → AllKept old new kept
  tellswatch-kept repository rule h = watch-kept w old new repository rule kept h.outcome h.over

  pub tellsanswer-kept : (q : Question) → TellsAnswer w old new q kept s status → AllKept old new kept
  tellsanswer-kept q h =
      let over = h.over in
      subst (AllKept old new) (ap (λ k. kept_under (first_names (asked_of q) k) (map medium_in over.openings)) (sym (AllZip-long (HasOpened w) over.media over.openings over.volumes.opened)) ∙ sym over.handed)
      (all-kept w old new (first_names (asked_of q) (length over.media)) over.media (map medium_in over.openings) over.volumes.taken (back-all w over.media over.openings (map medium_in over.openings) over.volumes.opened over.keep))

told-most : (status : ℕ) (s : Sinking) (there : ℕ) (text : List ℕ) → there ≤ 8 → Ends status s there text → status ≤ 8
told-most status s there text most (inl h) = subst (λ n. n ≤ 8) (sym h.0) most
told-most status s there text most (inr h) = let e = h.0 in omega (arith, e)

pub outcome-most : (r : Outcome) (s : Sinking) (status : ℕ) → TellsOutcome r status s → status ≤ 8
outcome-most (Told text) s status h = told-most status s 0 text (omega arith) h
outcome-most (Refused line) s status h = let e = h.0 in omega (arith, e)
outcome-most (Fallen line) s status h = told-most status s 6 line (omega arith) h
outcome-most NoMemory s status h = let e = h.0 in omega (arith, e)

-- a clock that words ask for is one that a stamp has
pub clock-within : (clock : Option ℕ) (words : List (List ℕ)) → IsSnapshot clock words → IfSome clock (λ c. (1 ≤ c) × (c ≤ 1099511627775))
clock-within None words are = tt
clock-within (Some c) words are = let is = are.2 in let high = is.high in (is.low, omega (arith, high))
