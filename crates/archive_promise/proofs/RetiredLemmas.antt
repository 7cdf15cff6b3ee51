-- What a retirement makes of volumes that a past left.
use Rattle.std.proofs.Common.{◌≡◌, ◌∙◌, ◌⊎◌, ◌+◌, ◌≤◌, ◌++◌, ℕ, zero, suc, Bool, true, false, List, [], ◌∷◌, length, map, reverse, append_assoc, ap, arith, inl, inr, refl, subst, sym}
use Rattle.std.proofs.lemmas.List.{append-nil, length-append, reverse-append}
use Rattle.std.specs.Prelude.{if◌then◌else◌}
use Rattle.pseudo_time.specs.Nodes.{repository}
use Rattle.pseudo_time.specs.TimeParts.{TimeParts}
use Rattle.effect_form.specs.declared.effects.Effect.{Effect}
use Rattle.message_core.proofs.NodeLemmas.{same_node-refl}
use Rattle.object_retirement.specs.Forward.{MayRetire, forward}
use Rattle.forward_copy.specs.Currents.{current_from, log_at, node_log}
use Rattle.forward_copy.specs.Wholes.{has_whole}
use Rattle.archive_law.specs.Earlier.{Earlier, replaced}
use Rattle.archive_law.specs.Earlier.Earlier.{Retiring}
use Rattle.archive_law.specs.Archives.{log_after, volumes_left}
use Rattle.world_core.specs.Pasts.{own_reading}
use Rattle.snapshot_command.specs.Archives.{Complete, complete, complete_from, is_complete}
use Rattle.archive_promise.specs.Answered.{WereLeft}
use Rattle.archive_promise.specs.Retired.{GoesOn, IsCarried, MayGoOn}

-- ---- the last one

abbrev last-of : {A : Type 0} → A → List A → A
last-of d [] = d
last-of d (x ∷ xs) = last-of x xs

last-append : {A : Type 0} (d : A) (xs : List A) (z : A) → last-of d (xs ++ z ∷ []) ≡ z
last-append d [] z = refl
last-append d (x ∷ xs) z = last-append x xs z

at-end : (pre : List (List Effect)) (log : List Effect) (rest : List (List Effect)) → log_at (pre ++ log ∷ rest) (length pre) ≡ log
at-end [] log rest = refl
at-end (p ∷ pre) log rest = at-end pre log rest

abbrev logs-in : List Complete → List (List Effect)
logs-in cs = map (λ (c : Complete). c.log) cs

current-last : (rest pre : List (List Effect)) (u found : ℕ) → length pre ≡ suc u →
    log_at (pre ++ rest) (current_from found (suc u) rest) ≡ last-of (log_at (pre ++ rest) found) (logs-in (complete_from (suc u) rest))
current-last [] pre u found e = refl
current-last (log ∷ rest) pre u found e = by (λ f long. current-last rest (pre ++ log ∷ []) (suc u) f long) (has_whole log)
  where
    all : (pre ++ log ∷ []) ++ rest ≡ pre ++ log ∷ rest
    all = append_assoc pre (log ∷ []) rest

    long : length (pre ++ log ∷ []) ≡ suc (suc u)
    long = let n = length-append pre (log ∷ []) in omega (arith, n, e)

    next-at : ((f : ℕ) → length (pre ++ log ∷ []) ≡ suc (suc u) → log_at ((pre ++ log ∷ []) ++ rest) (current_from f (suc (suc u)) rest) ≡ last-of (log_at ((pre ++ log ∷ []) ++ rest) f) (logs-in (complete_from (suc (suc u)) rest))) → (f : ℕ) → log_at (pre ++ log ∷ rest) (current_from f (suc (suc u)) rest) ≡ last-of (log_at (pre ++ log ∷ rest) f) (logs-in (complete_from (suc (suc u)) rest))
    next-at later f =
        subst (λ (l : List (List Effect)). log_at l (current_from f (suc (suc u)) rest) ≡ last-of (log_at l f) (logs-in (complete_from (suc (suc u)) rest))) all
        (later f long)

    here : log_at (pre ++ log ∷ rest) (suc u) ≡ log
    here = subst (λ (n : ℕ). log_at (pre ++ log ∷ rest) n ≡ log) e (at-end pre log rest)

    by : ((f : ℕ) → length (pre ++ log ∷ []) ≡ suc (suc u) → log_at ((pre ++ log ∷ []) ++ rest) (current_from f (suc (suc u)) rest) ≡ last-of (log_at ((pre ++ log ∷ []) ++ rest) f) (logs-in (complete_from (suc (suc u)) rest)))
        → (b : Bool) → log_at (pre ++ log ∷ rest) (current_from (if b then suc u else found) (suc (suc u)) rest)
        ≡ last-of (log_at (pre ++ log ∷ rest) found) (logs-in (if b then record { volume = suc u; log = log } ∷ complete_from (suc (suc u)) rest else complete_from (suc (suc u)) rest))
    by later true = next-at later (suc u) ∙ ap (λ (l : List Effect). last-of l (logs-in (complete_from (suc (suc u)) rest))) here
    by later false = next-at later found

-- the log of the current volume is that of the last complete one
node-last : (first : List Effect) (rest : List (List Effect)) → node_log (first ∷ rest) ≡ last-of first (logs-in (complete (first ∷ rest)))
node-last first rest = by (has_whole first)
  where
    by : (b : Bool) → log_at (first ∷ rest) (current_from (if b then 0 else 0) 1 rest) ≡ last-of first (logs-in (complete_from 1 rest))
    by true = current-last rest (first ∷ []) 0 0 refl
    by false = current-last rest (first ∷ []) 0 0 refl

node-is : (cs : List Earlier) (r : ℕ) (first : List Effect) (rest : List (List Effect)) → WereLeft cs r (first ∷ rest) → node_log (first ∷ rest) ≡ log_after cs (repository r)
node-is cs r first rest left = node-last first rest ∙ (ap (last-of first) left.same ∙ last-append first (reverse (replaced own_reading cs (repository r))) (log_after cs (repository r)))

-- ---- one volume more

abbrev if-whole : Bool → List Effect → List (List Effect)
if-whole b log = if b then log ∷ [] else []

more-complete : (v : ℕ) (xs : List (List Effect)) (log : List Effect) → 1 ≤ v + length xs → logs-in (complete_from v (xs ++ log ∷ [])) ≡ logs-in (complete_from v xs) ++ if-whole (has_whole log) log
more-complete zero [] log some = absurd (omega (arith, some))
more-complete (suc v) [] log some = by (has_whole log)
  where
    by : (b : Bool) → logs-in (if b then record { volume = suc v; log = log } ∷ [] else []) ≡ if-whole b log
    by true = refl
    by false = refl
more-complete v (x ∷ xs) log some = by (more-complete (suc v) xs log (omega arith)) (is_complete v x)
  where
    by : logs-in (complete_from (suc v) (xs ++ log ∷ [])) ≡ logs-in (complete_from (suc v) xs) ++ if-whole (has_whole log) log → (b : Bool) → logs-in (if b then record { volume = v; log = x } ∷ complete_from (suc v) (xs ++ log ∷ []) else complete_from (suc v) (xs ++ log ∷ []))
        ≡ logs-in (if b then record { volume = v; log = x } ∷ complete_from (suc v) xs else complete_from (suc v) xs) ++ if-whole (has_whole log) log
    by next true = ap (λ (l : List (List Effect)). x ∷ l) next
    by next false = next

module _ (cs : List Earlier) (r : ℕ) (at : TimeParts) (front : List (List Effect)) (log : List Effect) (some : 1 ≤ length front) (left : WereLeft cs r (front ++ [] ∷ [])) where
  -- the complete ones so far
  front-left : logs-in (complete front) ≡ volumes_left cs r
  front-left = sym (append-nil (logs-in (complete front))) ∙ (sym (more-complete 0 front [] (omega (arith, some))) ∙ left.same)

  more-left : (b : Bool) → has_whole log ≡ b → logs-in (complete (front ++ log ∷ [])) ≡ volumes_left cs r ++ if-whole b log
  more-left b is = more-complete 0 front log (omega (arith, some)) ∙ (λ i. front-left i ++ if-whole (is i) log)

  -- a log that isn't whole leaves them as they were
  pub cut-left : has_whole log ≡ false → WereLeft cs r (front ++ log ∷ [])
  cut-left none = record { past = left.past; same = more-left false none ∙ append-nil (volumes_left cs r) }

  node-left : node_log (front ++ [] ∷ []) ≡ log_after cs (repository r)
  node-left = by front some left
    where
      by : (f : List (List Effect)) → 1 ≤ length f → WereLeft cs r (f ++ [] ∷ []) → node_log (f ++ [] ∷ []) ≡ log_after cs (repository r)
      by [] few l = absurd (omega (arith, few))
      by (first ∷ rest) few l = node-is cs r first (rest ++ [] ∷ []) l

  -- the volumes after a retirement, by whether it is one of this repository
  abbrev after-it : Bool → List (List Effect)
  after-it b =
      reverse (if b then log_after cs (repository r) ∷ replaced own_reading cs (repository r) else replaced own_reading cs (repository r))
      ++ (if b then forward (log_after cs (repository r)) at else log_after cs (repository r)) ∷ []

  -- a log that is all that is carried forward is one volume more
  pub whole-left : has_whole log ≡ true → log ≡ forward (node_log (front ++ [] ∷ [])) at → MayRetire (reverse (node_log (front ++ [] ∷ []))) at → WereLeft (Retiring r at ∷ cs) r (front ++ log ∷ [])
  whole-left whole is may = record {
    past = ((left.past.0, subst (λ (l : List Effect). MayRetire (reverse l) at) node-left may), left.past.1);
    same = more-left true whole ∙ (ap (λ (l : List Effect). volumes_left cs r ++ l ∷ []) (is ∙ ap (λ (l : List Effect). forward l at) node-left) ∙ (one-more ∙ sym (ap after-it (same_node-refl (repository r)))));
  }
    where
      one-more : volumes_left cs r ++ forward (log_after cs (repository r)) at ∷ [] ≡ after-it true
      one-more = ap (λ (l : List (List Effect)). l ++ forward (log_after cs (repository r)) at ∷ []) (sym (reverse-append (log_after cs (repository r) ∷ []) (replaced own_reading cs (repository r))))

-- whatever of it a fresh volume has, the volumes have a past
pub may-go-on : (r : ℕ) (at : TimeParts) (front : List (List Effect)) (log : List Effect) → IsCarried at front log → MayGoOn r at (front ++ [] ∷ []) (front ++ log ∷ [])
may-go-on r at front log is cs left = by (has_whole log) refl
  where
    by : (b : Bool) → has_whole log ≡ b → WereLeft (Retiring r at ∷ cs) r (front ++ log ∷ []) ⊎ WereLeft cs r (front ++ log ∷ [])
    by true whole = inl (whole-left cs r at front log is.some left whole (is.whole whole) is.may)
    by false none = inr (cut-left cs r at front log is.some left none)

-- and one that has all has it with the retirement
pub goes-on : (r : ℕ) (at : TimeParts) (front : List (List Effect)) (log : List Effect) → IsCarried at front log → has_whole log ≡ true → GoesOn r at (front ++ [] ∷ []) (front ++ log ∷ [])
goes-on r at front log is whole cs left = whole-left cs r at front log is.some left whole (is.whole whole) is.may
