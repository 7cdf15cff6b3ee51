-- What the logs of a folder come to. Logs stand oldest effect first, those of repositories 1 and of brokers 1 at the front.
use Rattle.std.specs.Prelude.{◌≡◌, ℕ, List, slice_get, Option, Some, None, Result, Ok, Err, if◌then◌else◌}
use Rattle.pseudo_time.specs.Order.{stamp_lt}
use Rattle.pseudo_time.specs.StampParts.{StampParts}
use Rattle.value_form.specs.Objects.{Objects}
use Rattle.effect_form.specs.declared.effects.Effect.{Effect}
use Rattle.serial_model.specs.Questions.{Tree}
use Rattle.script_replay.specs.Attempts.{stamp_of}
use Rattle.script_replay.specs.Replays.{HasReplayed}
use Rattle.script_replay.specs.declared.attempts.Told.{Told}
use Rattle.script_replay.specs.declared.replays.Difference.{Difference}
use Rattle.script_replay.specs.declared.replays.Difference.TheVariants as difference
use Rattle.script_replay.specs.declared.replays.Differs.{Differs}
use Rattle.log_replay.specs.Decisions.{HaveLogs, IsFirstMisdecided}
use Rattle.log_replay.specs.Folders.{ReadsLogs, run_in}
use Rattle.log_replay.specs.Unfit.{IsUnfitLog}
use Rattle.log_replay.specs.Untold.{Tells}
use Rattle.replay_command.specs.declared.judging.Found.{Found}
use Rattle.replay_command.specs.declared.judging.Kind.{Kind}
use Rattle.replay_command.specs.declared.judging.Kind.TheVariants as kind
use Rattle.replay_command.specs.declared.judging.Verdict.{Verdict}
use Rattle.replay_command.specs.declared.judging.Verdict.TheVariants as verdict

-- ---- which difference is the first

abbrev pub kind_of : Difference → Kind
kind_of difference.Answers = kind.Answers
kind_of difference.Ending = kind.Ending
kind_of difference.Versions = kind.Versions

abbrev pub at_kind : Option StampParts → Kind → Option Found
at_kind None k = None
at_kind (Some s) k = Some (record { stamp = s; kind = k })

abbrev pub found_at : Option StampParts → Kind → Option Found
found_at = at_kind

abbrev pub of_told : Option Told → Kind → Option Found
of_told None k = None
of_told (Some x) k = Some (record { stamp = stamp_of x; kind = k })

abbrev pub found_in : List Told → Differs → Option Found
found_in told d = of_told (slice_get told d.place) (kind_of d.difference)

-- the one with the lesser stamp, and of equal ones the first
abbrev pub lesser : Found → Option Found → Found
lesser f None = f
lesser f (Some g) = if stamp_lt g.stamp f.stamp then g else f

abbrev pub first_of : Option Found → Option Found → Option Found
first_of None other = other
first_of (Some f) other = Some (lesser f other)

-- what logs disagree on, or what no attempt has
abbrev pub other_of : Option StampParts → Option StampParts → Option Found
other_of misdecided untried = first_of (found_at misdecided kind.Decision) (found_at untried kind.Attempt)

-- ---- the verdict

-- what attempts that replay, or the first that differs, come to with another difference, if there is one
abbrev pub IsVerdict : List Told → Result Objects Differs → Option Found → Verdict → Type 0
IsVerdict told (Ok m) other (verdict.Replayed list map) = (list.items ≡ told) × (map ≡ m) × (other ≡ None)
IsVerdict told (Ok m) other (verdict.Differs found) = other ≡ Some found
IsVerdict told (Err d) other (verdict.Replayed list map) = ⊥
IsVerdict told (Err d) other (verdict.Differs found) = first_of (found_in told d) other ≡ Some found
IsVerdict told r other (verdict.Log number) = ⊥

-- what is told, with the least stamps that can't be told and that logs disagree on
pub record IsJudged (told : List Told) (untried misdecided : Option StampParts) (v : Verdict) : Type 0 where
  pub replayed : Result Objects Differs
  pub has : HasReplayed told replayed
  pub is : IsVerdict told replayed (other_of misdecided untried) v

-- All is told that the logs say, by any reading that reads their scripts, and judged.
pub record IsJudgedOf (repositories brokers : List (List Effect)) (v : Verdict) : Type 0 where
  pub told : List Told
  pub untried : Option StampParts
  pub misdecided : Option StampParts
  pub tells : (script : List ℕ → Tree) → ReadsLogs script brokers → Tells (run_in script repositories brokers) told untried
  pub decided : (k : _) → HaveLogs k repositories → IsFirstMisdecided k misdecided
  pub judged : IsJudged told untried misdecided v

abbrev pub Judges : (repositories brokers : List (List Effect)) → Verdict → Type 0
Judges repositories brokers (verdict.Log number) = IsUnfitLog brokers number
Judges repositories brokers (verdict.Differs found) = IsJudgedOf repositories brokers (verdict.Differs found)
Judges repositories brokers (verdict.Replayed told map) = IsJudgedOf repositories brokers (verdict.Replayed told map)
