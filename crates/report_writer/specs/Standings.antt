-- How an act stands at the end of a run, and how many acts stand so.
use Rattle.std.specs.Prelude.{ℕ, ◌-◌, Bool, true, false, List, length, filter, Option, Some, None, nat_lt, slice_get, if◌then◌else◌}
use Rattle.report_writer.specs.declared.records.TryOutcome.{TryOutcome}
use Rattle.report_writer.specs.declared.records.TryOutcome.TheVariants as outcome
use Rattle.report_writer.specs.declared.records.TryReport.{TryReport}
use Rattle.report_writer.specs.declared.records.ActReport.{ActReport}
use Rattle.report_writer.specs.declared.records.ActOutcome.{ActOutcome}
use Rattle.report_writer.specs.declared.records.ActOutcome.TheVariants as standing

abbrev pub outcome_in : Option TryReport → TryOutcome
outcome_in None = outcome.Open
outcome_in (Some t) = t.outcome

-- the outcome of the last attempt; open where there is none
abbrev pub last_outcome : List TryReport → TryOutcome
last_outcome tries = outcome_in (slice_get tries (length tries - 1))

-- what an attempt's outcome makes of its act, where it was the last one allowed or not
abbrev pub standing_after : Bool → TryOutcome → ActOutcome
standing_after last outcome.Open = standing.Open
standing_after last outcome.Committed = standing.Committed
standing_after last (outcome.Withdrawn l) = standing.Withdrawn
standing_after last (outcome.Failed l k) = standing.Failed
standing_after last (outcome.LaterRead o e) = if last then standing.Refused else standing.Open
standing_after last (outcome.LaterVersion o s) = if last then standing.Refused else standing.Open
standing_after last (outcome.Expired d m) = if last then standing.Expired else standing.Open

-- an act without a clock is spent; else its last attempt decides
abbrev pub standing_where : Option ℕ → Bool → TryOutcome → ActOutcome
standing_where (Some clock) last o = standing.Spent
standing_where None last o = standing_after last o

abbrev pub standing_of : ActReport → ActOutcome
standing_of act = standing_where act.spent (if nat_lt (length act.tries) act.allowed then false else true) (last_outcome act.tries)

abbrev pub same : ActOutcome → ActOutcome → Bool
same standing.Committed standing.Committed = true
same standing.Withdrawn standing.Withdrawn = true
same standing.Failed standing.Failed = true
same standing.Refused standing.Refused = true
same standing.Expired standing.Expired = true
same standing.Spent standing.Spent = true
same standing.Open standing.Open = true
same _ _ = false

-- how many acts stand so
abbrev pub count_of : ActOutcome → List ActReport → ℕ
count_of which acts = length (filter (λ a. same which (standing_of a)) acts)
