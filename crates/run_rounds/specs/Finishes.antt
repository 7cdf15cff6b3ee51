-- How a run ends, and what it hands back.
use Rattle.std.specs.Prelude.{◌≡◌, ◌⊎◌, ℕ, IsTrue, List, ◌++◌, Option, Some, None, Ok}
use Rattle.std.specs.List.{AllZip}
use Rattle.stream_port.specs.declared.fates.Asked.{Asked}
use Rattle.medium_port.specs.Image.{Image}
use Rattle.effect_form.specs.declared.effects.Effect.{Effect}
use Rattle.version_store.specs.Storage.{storage}
use Rattle.plan_form.specs.declared.plans.Plan.{Plan}
use Rattle.world_core.specs.declared.traces.Trace.{Trace}
use Rattle.run_media.specs.declared.openings.Refusal.{Refusal}
use Rattle.run_media.specs.declared.openings.Refusal.TheVariants as refusal
use Rattle.run_media.specs.Media.{Media, AreBack, IsLeftAlone, IsUntouched}
use Rattle.run_rounds.specs.declared.ends.End.{End}
use Rattle.run_rounds.specs.declared.ends.End.TheVariants as end
use Rattle.run_rounds.specs.Ends.{HasEnded, IsUnopened}
use Rattle.run_rounds.specs.Runs.{Account, RanTo, RanUntold, IsFirstFault}

-- what the fates were asked for and the clock answered, before and after
pub record Tellers : Type 0 where
  pub asked_before : List Asked
  pub asked : List Asked
  pub answers_before : Option (List ℕ)
  pub answers : Option (List ℕ)

abbrev pub tellers : List Asked → List Asked → Option (List ℕ) → Option (List ℕ) → Tellers
tellers asked_before asked answers_before answers = record { asked_before = asked_before; asked = asked; answers_before = answers_before; answers = answers }

abbrev pub account_of : Trace → Tellers → Account
account_of t told = record { trace = t; asked_before = told.asked_before; asked = told.asked; answers_before = told.answers_before; answers = told.answers }

module _ {M : Type 0} (w : Media M) where
  -- whatever a crash leaves has the log that it had, with more behind it
  abbrev pub HasItsLog : M → M → Type 0
  HasItsLog old new = IsTrue w.tells → (log : List Effect) × (storage (w.reads old) ≡ Ok log) × ((c : Image) → w.may_leave new c → (more : List Effect) × (storage c ≡ Ok (log ++ more)))

  -- a medium in its place that wasn't written to, or that has its log
  abbrev pub IsKeptWhole : Option M → Option M → Type 0
  IsKeptWhole None None = Unit {0}
  IsKeptWhole None (Some new) = ⊥
  IsKeptWhole (Some old) None = ⊥
  IsKeptWhole (Some old) (Some new) = IsUntouched w old new ⊎ HasItsLog old new

-- A run told its trace; or a broker's log refused the plan, and nothing happened; or memory ran out, and nothing that stood in a log is lost: either no medium was written to,
-- or there was a run, whose trace isn't told. A run that tells its trace is over as this says.
abbrev pub EndsTo : {M : Type 0} → Media M → (Trace → Type 0) → Plan → Tellers → (media left : List (Option M)) → End → Type 0
EndsTo w over plan told media left (end.Ran t) = RanTo w over plan (account_of t told) media left
EndsTo w over plan told media left (end.Refused fault) =
    AreBack media left × AllZip (IsLeftAlone w) media left × IsFirstFault w plan media left fault × (told.asked ≡ told.asked_before) × (told.answers ≡ told.answers_before)
EndsTo w over plan told media left end.NoMemory =
    AreBack media left × AllZip (IsKeptWhole w) media left × (IsTrue w.tells → AllZip (IsLeftAlone w) media left ⊎ RanUntold w plan told.asked_before media left)

-- a run for acts, with at most so many Ticks, and so many messages at which it ends
abbrev pub EndsAs : {M : Type 0} → Media M → (most_ticks enough : ℕ) → Plan → Tellers → (media left : List (Option M)) → End → Type 0
EndsAs w most_ticks enough plan told media left e = EndsTo w (λ t. HasEnded most_ticks enough plan t ⊎ IsUnopened plan t) plan told media left e

-- the end of a run that didn't begin
abbrev pub IsEndFor : Refusal → End → Type 0
IsEndFor (refusal.Resume fault) e = e ≡ end.Refused fault
IsEndFor refusal.NoMemory e = e ≡ end.NoMemory
