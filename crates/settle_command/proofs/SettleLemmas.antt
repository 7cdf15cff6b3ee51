-- From how a settle ended to what comes of it.
use Rattle.std.proofs.Common.{◌≡◌, ◌⊎◌, ◌≤◌, inl, inr, ℕ, Bool, true, false, IsTrue, List, [], length, map, Option, refl, sym, subst, arith}
use Rattle.std.proofs.lemmas.Slice.Zip.{AllZip-long}
use Rattle.std.specs.List.{AllZip}
use Rattle.plan_form.specs.PlanTexts.{CanRun}
use Rattle.plan_form.specs.declared.plans.Plan.{Plan}
use Rattle.plan_volumes.specs.Kept.{AllKept}
use Rattle.plan_volumes.specs.KeptMedium.{Kept}
use Rattle.plan_volumes.specs.Media.{AreBack, IsBack, IsLeftAlone, Media}
use Rattle.plan_volumes.specs.Shelves.{ShelfSight}
use Rattle.plan_volumes.specs.Volumes.{HadMemory, HasVolumes, NodeVolumes, work_taken}
use Rattle.run_command.proofs.ShelfLemmas.{all-kept, none-lost}
use Rattle.run_command.specs.Contract.{WantedMemory}
use Rattle.run_command.specs.Tellings.{OfRun}
use Rattle.run_command.specs.Written.{Sinking}
use Rattle.run_rounds.proofs.RangeLemmas.{none-within}
use Rattle.run_rounds.specs.Finishes.{EndsTo, IsKeptWhole, Tellers, account_of}
use Rattle.run_rounds.specs.Places.{PlacesHavePasts}
use Rattle.run_rounds.specs.Runs.{HasRanges, RanTo, RanUntold}
use Rattle.run_rounds.specs.Stories.{no_trace}
use Rattle.run_rounds.specs.declared.ends.End.{End}
use Rattle.run_rounds.specs.declared.ends.End.TheVariants as end
use Rattle.settle_command.specs.Contract.{IsOverAs, SettleEnds, SettledOver, SettlesAll}
use Rattle.settle_law.specs.Settling.{AllExpired}
use Rattle.settle_command.specs.Plans.{settle_plan}
use Rattle.settle_command.specs.Tellings.{TellsSettle}
use Rattle.stream_port.specs.declared.fates.Asked.{Asked}
use Rattle.world_core.specs.Legal.{JustNodes}
use Rattle.world_core.specs.Readings.{IsLegal}
use Rattle.world_core.specs.declared.traces.Trace.{Trace}

pub can-run : (n : ℕ) → 1 ≤ n → n ≤ 16 → CanRun (settle_plan n)
can-run n low high = record { run = (omega arith, omega arith); repositories = (low, high); brokers = omega arith; acts = tt; few = omega arith }

module _ {M : Type 0} (w : Media M) (plan : Plan) (told : Tellers) (media left : List (Option M)) where
  -- what the writing of a report asks of the trace
  pub end-nodes : (e : End) → EndsTo w (IsOverAs plan) plan told media left e → OfRun e (λ t. JustNodes plan t.opened)
  end-nodes (end.Ran t) h = h.nodes
  end-nodes (end.Refused fault) h = tt
  end-nodes end.NoMemory h = tt

  pub end-ranges : (e : End) → EndsTo w (IsOverAs plan) plan told media left e → OfRun e HasRanges
  end-ranges (end.Ran t) h = h.ranges
  end-ranges (end.Refused fault) h = tt
  end-ranges end.NoMemory h = tt

  -- media come back however a settle ends
  end-back : (e : End) → EndsTo w (IsOverAs plan) plan told media left e → AreBack media left
  end-back (end.Ran t) h = h.logs.back
  end-back (end.Refused fault) h = h.0
  end-back end.NoMemory h = h.0

  -- as many as were taken
  pub end-long : (e : End) → EndsTo w (IsOverAs plan) plan told media left e → length left ≡ length media
  end-long e h = AllZip-long IsBack media left (end-back e h)

module _ {M : Type 0} (w : Media M) (old new : ShelfSight) (n : ℕ) (told : Tellers) (volumes : List (NodeVolumes w)) (left : List (Option M)) (kept : List (Kept M)) (has : HasVolumes w old new (settle_plan n) volumes left kept) where
  abbrev plan : Plan
  plan = settle_plan n

  -- the volumes that the settle was given
  abbrev media : List (Option M)
  media = map work_taken volumes

  settle-kept : (e : End) → EndsTo w (IsOverAs plan) plan told media left e → AllKept old new kept
  settle-kept e ends = all-kept w old new plan volumes left kept has (end-back w plan told media left e ends)

  -- memory ran out in a run that isn't told
  no-memory : (t : Trace) → t ≡ no_trace → AllZip (IsKeptWhole w) media left → (IsTrue w.tells → AllZip (IsLeftAlone w) media left ⊎ (HadMemory w volumes × RanUntold w plan told.asked_before media left))
      → WantedMemory {M = M} w old new kept plan (account_of t told)
  no-memory t none whole past = record { trace = none; volumes = volumes; left = left; has = has; safe = none-lost w old new plan volumes left kept has whole; past = past }

  module _ (laws : (asked : List Asked) (t : Trace) → IsLegal plan asked t → (t.sent ≡ []) × AllExpired plan t × PlacesHavePasts plan t) (wanting : Bool) (memory : wanting ≡ false → HadMemory w volumes) where
    -- unless nothing happened, memory was there for all volumes
    had : (e : End) → (e ≡ end.NoMemory → ⊥) → (wanting ≡ true → e ≡ end.NoMemory) → HadMemory w volumes
    had e other none = by wanting refl
      where
        by : (b : Bool) → wanting ≡ b → HadMemory w volumes
        by true is = absurd (other (none is))
        by false is = memory is

    -- memory ran out for a volume, so that nothing was written; or in the settle
    past-of : (wanting ≡ true → AllZip (IsLeftAlone w) media left) → (IsTrue w.tells → AllZip (IsLeftAlone w) media left ⊎ RanUntold w plan told.asked_before media left)
        → IsTrue w.tells → AllZip (IsLeftAlone w) media left ⊎ (HadMemory w volumes × RanUntold w plan told.asked_before media left)
    past-of alone past tells = by wanting refl (past tells)
      where
        by : (b : Bool) → wanting ≡ b → AllZip (IsLeftAlone w) media left ⊎ RanUntold w plan told.asked_before media left → AllZip (IsLeftAlone w) media left ⊎ (HadMemory w volumes × RanUntold w plan told.asked_before media left)
        by b is (inl h) = inl h
        by true is (inr h) = inl (alone is)
        by false is (inr h) = inr (memory is, h)

    settled-over : (t : Trace) → HadMemory w volumes → RanTo w (IsOverAs plan) plan (account_of t told) media left → SettledOver {M = M} w old new kept plan (account_of t told)
    settled-over t there ran = record { volumes = volumes; left = left; has = has; memory = there; ran = ran; silent = λ tells. (laws told.asked t (ran.is_told tells).legal).0; expired = λ tells. (laws told.asked t (ran.is_told tells).legal).1; pasts = λ tells. (laws told.asked t (ran.is_told tells).legal).2 }

    by-end : (e : End) (status : ℕ) (t : Trace) (s : Sinking) → EndsTo w (IsOverAs plan) plan told media left e → (wanting ≡ true → (e ≡ end.NoMemory) × AllZip (IsLeftAlone w) media left)
        → TellsSettle plan e status t s → SettlesAll {M = M} w old new kept n (account_of t told) s status
    by-end (end.Ran r) status t s ends none tells =
        subst (λ (z : Trace). SettlesAll {M = M} w old new kept n (account_of z told) s status) (sym tells.0) (inr (settled-over r (had (end.Ran r) (λ e. absurd (cc e)) (λ is. (none is).0)) ends, tells.1))
    by-end (end.Refused fault) status t s ends none tells = let first = ends.2 in absurd (none-within first.which first.within)
    by-end end.NoMemory status t s ends none tells = inl (tells.1, inr (no-memory t tells.0 ends.1 (past-of (λ is. (none is).1) ends.2)))

-- a settle that ended so over volumes that a shelf gave
pub settles-over : {M : Type 0} (w : Media M) (old new : ShelfSight) (n : ℕ) (volumes : List (NodeVolumes w)) (wanting : Bool) (told : Tellers) (t : Trace) (kept : List (Kept M)) (s : Sinking) (status : ℕ)
    → ((asked : List Asked) (u : Trace) → IsLegal (settle_plan n) asked u → (u.sent ≡ []) × AllExpired (settle_plan n) u × PlacesHavePasts (settle_plan n) u) → (wanting ≡ false → HadMemory w volumes) → (e : SettleEnds w (settle_plan n) volumes wanting told t kept s status)
    → HasVolumes w old new (settle_plan n) volumes e.left kept → SettlesAll w old new kept n (account_of t told) s status
settles-over w old new n volumes wanting told t kept s status laws memory e has = by-end w old new n told volumes e.left kept has laws wanting memory e.ending status t s e.ends e.shut e.tells

-- and each medium is handed back
pub over-kept : {M : Type 0} (w : Media M) (old new : ShelfSight) (n : ℕ) (volumes : List (NodeVolumes w)) (wanting : Bool) (told : Tellers) (t : Trace) (kept : List (Kept M)) (s : Sinking) (status : ℕ)
    → (e : SettleEnds w (settle_plan n) volumes wanting told t kept s status) → HasVolumes w old new (settle_plan n) volumes e.left kept → AllKept old new kept
over-kept w old new n volumes wanting told t kept s status e has = settle-kept w old new n told volumes e.left kept has e.ending e.ends
