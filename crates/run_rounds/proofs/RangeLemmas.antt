-- The moments of a run, the numbers of its nodes and the effects of their logs are in range.
use Rattle.run_rounds.proofs.Names.{Every, repository, broker, Asked, Plan, CanRun, Trace, Origin, IsWhole, Opening, Open, Shut, Wanting, Media, HasOpened, IsInRange, opened_from, node_at, node_count, IsSetUp, ◌≡◌, ◌≤◌, ◌<◌, ◌+◌, ◌-◌, ◌^◌, nat_lt, ℕ, suc, Bool, true, false, List, [], ◌∷◌, Option, Some, None, length, if◌then◌else◌, refl, sym, subst, arith, All, AllZip, nat_tests, All-nil, All-cons, HasRanges, in-range, is_within}
use Rattle.trace_report.specs.Replays.{IsOpened}
use Rattle.run_rounds.proofs.ListLemmas.{all-first, all-rest}

-- ---- effects

module _ {M : Type 0} {g : _} (w : Media M) where
  range-one : (x : Option M) (o : Opening M g) → HasOpened w x o → IsInRange o
  range-one None (Open store effects) h = absurd h
  range-one (Some old) (Open store effects) h = h.in_range
  range-one x (Shut medium cause) h = tt
  range-one x (Wanting medium) h = tt

  -- what was opened has effects in range
  pub ranges-opened : (xs : List (Option M)) (os : List (Opening M g)) → AllZip (HasOpened w) xs os → All IsInRange os
  ranges-opened [] [] h = All-nil IsInRange
  ranges-opened [] (o ∷ os) h = absurd h
  ranges-opened (x ∷ xs) [] h = absurd h
  ranges-opened (x ∷ xs) (o ∷ os) h = All-cons IsInRange o os (range-one x o h.0) (ranges-opened xs os h.1)

-- ---- nodes

module _ (plan : Plan) (lang : CanRun plan) where
  number-in : (k : ℕ) → k < node_count plan → (1 ≤ (node_at plan k).number) × ((node_at plan k).number ≤ 16)
  number-in k lt = go (nat_lt k plan.repositories) refl
    where
      go : (t : Bool) → nat_lt k plan.repositories ≡ t → (1 ≤ (if t then repository (k + 1) else broker (k - plan.repositories + 1)).number) × ((if t then repository (k + 1) else broker (k - plan.repositories + 1)).number ≤ 16)
      go true e = let h : k < plan.repositories = grind (arith, nat_tests) in let most = lang.repositories.1 in (omega arith, omega (arith, h, most))
      go false e = let h : plan.repositories ≤ k = grind (arith, nat_tests) in let most = lang.brokers in (omega arith, omega (arith, h, lt, most))

  module _ {M : Type 0} {g : _} where
    opened-in : (k : ℕ) (os : List (Opening M g)) → k + length os ≤ node_count plan → All IsInRange os → Every IsOpened (opened_from plan k os)
    opened-in k [] few ranges = tt
    opened-in k (o ∷ os) few ranges =
        let n = number-in k (omega (arith, few)) in
        (record { low = n.0; high = n.1; log = all-first IsInRange o os ranges }, opened-in (suc k) os (omega (arith, few)) (all-rest IsInRange o os ranges))

    -- all of a run that was set up over these openings is in range
    pub ranges-of : (os : List (Opening M g)) (before asked : List Asked) (answers_before answers : Option (List ℕ)) (o : Origin) (told : Bool) (t : Trace) → IsSetUp plan os before answers_before o → length os ≡ node_count plan → All IsInRange os
        → IsWhole told o t asked answers → HasRanges t
    ranges-of os before asked answers_before answers o told t s count ranges whole = record {
      start = subst (λ (n : ℕ). n ≤ 2 ^ 62) (sym whole.start) s.start;
      opened = subst (Every IsOpened) (sym whole.opened) (subst (Every IsOpened) (sym s.opened) (opened-in 0 os (omega (arith, count)) ranges));
      moments = whole.moments;
    }

-- ---- plans without brokers

-- no number is one of none
pub none-within : (b : ℕ) → is_within b 0 ≡ true → ⊥
none-within b h = let range = in-range b 0 h in omega (arith, range.0, range.1)
