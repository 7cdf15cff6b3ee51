-- How a settle is reported: its text and its status.
use Rattle.std.specs.Prelude.{◌≡◌, ◌⊎◌, ℕ, List}
use Rattle.plan_form.specs.declared.plans.Plan.{Plan}
use Rattle.run_command.specs.Written.{Ends, HasNoMemory, Sinking}
use Rattle.run_rounds.specs.Stories.{no_trace}
use Rattle.run_rounds.specs.declared.ends.End.{End}
use Rattle.run_rounds.specs.declared.ends.End.TheVariants.{Ran, Refused, NoMemory}
use Rattle.settle_report.specs.Texts.{IsTextOf, settle_status}
use Rattle.world_core.specs.declared.traces.Trace.{Trace}

-- the sink got the report of the settle and this is its status, or it failed and got a prefix of it; unless memory ran out for the report
abbrev pub IsReported : Plan → Trace → ℕ → Sinking → Type 0
IsReported plan t status s = HasNoMemory status s ⊎ ((text : List ℕ) × IsTextOf plan t text × Ends status s (settle_status plan t) text)

-- of a settle that ended so this status and this trace are told
abbrev pub TellsSettle : Plan → End → ℕ → Trace → Sinking → Type 0
TellsSettle plan (Ran ran) status t s = (t ≡ ran) × IsReported plan ran status s
TellsSettle plan (Refused fault) status t s = (t ≡ no_trace) × HasNoMemory status s
TellsSettle plan NoMemory status t s = (t ≡ no_trace) × HasNoMemory status s
