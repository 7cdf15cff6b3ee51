-- Runs that agree in the logs of their repositories and in their tries are serial together.
use Rattle.std.specs.FinMap as finite
use Rattle.serial_law.proofs.Names.{Every, Has, StampParts, stamp_lt, repository, NodeId, ObjectId, Objects, Effect, Mark, Put, scan, value_of, marks, talked, talked_alone, Try, RunLogs, in_run, some_of, has_commit, has_learned, committed, puts_of, puts_to, written, find, deed_of, deed, put_stamps, log_stamps, try_stamps, deed_stamps, all_deeds, before, finals, marks_at, Serial, IsSerial, KeepsPuts, PutsStand, WasGivenUp, wrote, last_values, marks_to, ◌≡◌, ◌⊎◌, ℕ, zero, suc, ◌≤◌, Bool, true, false, ◌&&◌, ◌||◌, nat_le, map, List, [], ◌∷◌, ◌++◌, refl, sym, ◌∙◌, ap, subst, if◌then◌else◌, arith, le-leb, holding}
use Rattle.serial_model.specs.Deeds.{after_deeds, stamp_if}
use Rattle.broker_laws.proofs.TestLemmas.{and-both}

abbrev run_with : ℕ → (NodeId → List Effect) → List Try → RunLogs
run_with n logs tries = record { repositories = n; logs = logs; tries = tries }

module _ (most : ℕ) (f g : NodeId → List Effect) (tries : List Try) (same : (r : ℕ) → (nat_le 1 r && nat_le r most) ≡ true → f (repository r) ≡ g (repository r)) where
  abbrev k : RunLogs
  k = run_with most f tries

  abbrev k' : RunLogs
  k' = run_with most g tries

  here : (r : ℕ) → suc r ≤ most → f (repository (suc r)) ≡ g (repository (suc r))
  here r le = same (suc r) (and-both (le-leb 1 (suc r) (omega arith)) (le-leb (suc r) most le))

  -- ---- committed stamps

  some-same : (s : StampParts) (n : ℕ) → n ≤ most → some_of n (λ r. has_learned s (f (repository r))) ≡ some_of n (λ r. has_learned s (g (repository r)))
  unfolding some_of
  some-same s zero le = refl
  some-same s (suc n) le = λ i. has_learned s (here n le i) || some-same s n (omega (arith, le)) i

  if-same : (c : Bool) (x x' y y' : Bool) → (c ≡ true → x ≡ x') → y ≡ y' → (if c then x else y) ≡ (if c then x' else y')
  if-same true x x' y y' h e = h refl
  if-same false x x' y y' h e = e

  pub committed-same : (s : StampParts) → committed k s ≡ committed k' s
  unfolding committed
  committed-same s = if-same (in_run k s.home) _ _ _ _ (λ h. ap (has_commit s) (same s.home h)) (some-same s most (omega arith))

  -- ---- puts

  to-puts : (s : StampParts) (n : ℕ) → n ≤ most → puts_to k s n ≡ puts_to k' s n
  unfolding puts_to
  to-puts s zero le = refl
  to-puts s (suc n) le = λ i. puts_of s (marks (here n le i)) (to-puts s n (omega (arith, le)) i)

  written-same : (s : StampParts) → written k s ≡ written k' s
  written-same s = to-puts s most (omega arith)

  -- ---- the map before a stamp

  marks-stamps : (ok ok' : StampParts → Bool) → ((s : StampParts) → ok s ≡ ok' s) → (m : List Mark) (ss : List StampParts) → put_stamps ok m ss ≡ put_stamps ok' m ss
  unfolding put_stamps
  marks-stamps ok ok' e [] ss = refl
  marks-stamps ok ok' e (Put o x v ∷ m) ss = λ i. stamp_if (e x.stamp i) x.stamp (marks-stamps ok ok' e m ss i)
  marks-stamps ok ok' e (_ ∷ m) ss = marks-stamps ok ok' e m ss

  tries-stamps : (ok ok' : StampParts → Bool) → ((s : StampParts) → ok s ≡ ok' s) → (ts : List Try) → try_stamps ok ts ≡ try_stamps ok' ts
  unfolding try_stamps
  tries-stamps ok ok' e [] = refl
  tries-stamps ok ok' e (t ∷ ts) = λ i. stamp_if (e t.stamp i) t.stamp (tries-stamps ok ok' e ts i)

  logs-stamps : (ok ok' : StampParts → Bool) → ((s : StampParts) → ok s ≡ ok' s) → (n : ℕ) → n ≤ most → (ss ss' : List StampParts) → ss ≡ ss' → log_stamps k ok n ss ≡ log_stamps k' ok' n ss'
  unfolding log_stamps
  logs-stamps ok ok' e zero le ss ss' q = q
  logs-stamps ok ok' e (suc n) le ss ss' q =
      marks-stamps ok ok' e (marks (f (repository (suc n)))) (log_stamps k ok n ss)
      ∙ (λ i. put_stamps ok' (marks (here n le i)) (logs-stamps ok ok' e n (omega (arith, le)) ss ss' q i))

  map-same : (ss : List StampParts) → map (deed k) ss ≡ map (deed k') ss
  map-same [] = refl
  map-same (s ∷ ss) = λ i. (ap (deed_of (find s tries)) (written-same s)) i ∷ map-same ss i

  deeds-same : (ss : List StampParts) (m : Objects) → all_deeds k ss m ≡ all_deeds k' ss m
  unfolding all_deeds
  deeds-same ss m = ap (λ ds. after_deeds ds m) (map-same ss)

  pub before-same : (s : StampParts) → before k s ≡ before k' s
  unfolding before
  before-same s =
      let ok : StampParts → Bool = λ t. stamp_lt t s && committed k t in
      let ok' : StampParts → Bool = λ t. stamp_lt t s && committed k' t in
      let e : (t : StampParts) → ok t ≡ ok' t = λ t. ap (λ c. stamp_lt t s && c) (committed-same t) in
      deeds-same (deed_stamps k ok) finite.empty ∙ ap (λ ss. all_deeds k' ss finite.empty) (logs-stamps ok ok' e most (omega arith) _ _ (tries-stamps ok ok' e tries))

  pub finals-same : finals k ≡ finals k'
  unfolding finals
  finals-same =
      let ok : StampParts → Bool = λ t. committed k t in
      let ok' : StampParts → Bool = λ t. committed k' t in
      deeds-same (deed_stamps k ok) finite.empty ∙ ap (λ ss. all_deeds k' ss finite.empty) (logs-stamps ok ok' committed-same most (omega arith) _ _ (tries-stamps ok ok' committed-same tries))

  marks-same : (o : ObjectId) → marks_at k o ≡ marks_at k' o
  unfolding marks_at
  marks-same o = here-marks (in_run k o.repository) (λ e. same o.repository e)
    where
      here-marks : (c : Bool) → (c ≡ true → f (repository o.repository) ≡ g (repository o.repository)) →
          (if c then marks (f (repository o.repository)) else []) ≡ (if c then marks (g (repository o.repository)) else [])
      here-marks true h = ap marks (h refl)
      here-marks false h = refl

  -- ---- what the logs hold

  to-same : (n : ℕ) → n ≤ most → marks_to k n ≡ marks_to k' n
  to-same zero le = refl
  to-same (suc n) le = λ i. marks (here n le i) ++ to-same n (omega (arith, le)) i

  pub last-same : last_values k ≡ last_values k'
  last-same = λ i. holding (λ s. committed-same s i) (λ o. value_of (scan (λ x. committed-same x.stamp i) o (to-same most (omega arith) i))) (to-same most (omega arith) i)

  -- ---- serial

  pub serial-same : Serial k → Serial k'
  serial-same h t j =
      let p' : IsSerial k t (talked t.script t.answers) (talked_alone t.script (before k' t.stamp)) = subst (λ m. IsSerial k t (talked t.script t.answers) (talked_alone t.script m)) (before-same t.stamp) (h t j) in
      let c : committed k' t.stamp ≡ committed k t.stamp = sym (committed-same t.stamp) in
      record {
        front = p'.front;
        finished = λ e. p'.finished (sym c ∙ e);
        withdrawn = p'.withdrawn;
        failed = p'.failed;
        sure = λ e. c ∙ p'.sure e;
        other = λ o e n. c ∙ p'.other o e n;
        puts = λ e. sym (written-same t.stamp) ∙ p'.puts (sym c ∙ e);
      }

  pub puts-same : KeepsPuts k → KeepsPuts k'
  puts-same h t j e =
      let p : PutsStand k t = h t j (committed-same t.stamp ∙ e) in
      record {
        lines = subst (λ vs. Every (λ v. Has v (wrote t)) vs) (written-same t.stamp) p.lines;
        puts = subst (λ (m : ObjectId → List Mark). Every (λ v. Has v (written k' t.stamp) ⊎ WasGivenUp (m v.object) v) (wrote t)) (λ i o. marks-same o i)
            (subst (λ vs. Every (λ v. Has v vs ⊎ WasGivenUp (marks_at k v.object) v) (wrote t)) (written-same t.stamp) p.puts);
      }
