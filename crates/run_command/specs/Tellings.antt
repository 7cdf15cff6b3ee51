-- How a run is reported: its text and its status.
use Rattle.std.specs.Prelude.{◌≡◌, ◌⊎◌, ℕ, ◌==◌, List, if◌then◌else◌}
use Rattle.plan_form.specs.declared.plans.Plan.{Plan}
use Rattle.world_core.specs.declared.traces.Trace.{Trace}
use Rattle.run_rounds.specs.Reports.{open_acts, run_text, load_text}
use Rattle.run_rounds.specs.Stories.{no_trace}
use Rattle.run_rounds.specs.declared.ends.End.{End}
use Rattle.run_rounds.specs.declared.ends.End.TheVariants.{Ran, Refused, NoMemory}
use Rattle.run_rounds.specs.Ends.{some_down}
use Rattle.run_command.specs.declared.reports.Wanted.{Wanted}
use Rattle.run_command.specs.declared.reports.Wanted.TheVariants.{Report, Summary}
use Rattle.run_command.specs.Lines.{resume_line}
use Rattle.run_command.specs.Written.{Sinking, EndsIfAny, GotLine, HasNoMemory}

-- the report of a run, or the summary of a load
abbrev pub wanted_text : Wanted → Plan → Trace → List ℕ
wanted_text Report plan t = run_text plan t
wanted_text (Summary seed) plan t = load_text seed plan t

-- a node is down; else an act has no outcome; else neither
abbrev pub status_with : Trace → (unfinished : ℕ) → ℕ
status_with t unfinished = if some_down t.entries then 6 else (if unfinished == 0 then 0 else 5)

-- the status of a run whose text is written
abbrev pub status_of : Plan → Trace → ℕ
status_of plan t = status_with t (open_acts plan t)

-- so it is of the trace, where there is one
abbrev pub OfRun : End → (Trace → Type 0) → Type 0
OfRun (Ran t) P = P t
OfRun (Refused fault) P = Unit {0}
OfRun NoMemory P = Unit {0}

-- Of a run that ended so this status is reported and this trace: its text, or the line that refuses its plan, unless memory ran out.
abbrev pub TellsEnd : Wanted → Plan → End → ℕ → Trace → Sinking → Type 0
TellsEnd wanted plan (Ran ran) status t s = (t ≡ ran) × EndsIfAny status s (status_of plan ran) (wanted_text wanted plan ran)
TellsEnd wanted plan (Refused fault) status t s = (t ≡ no_trace) × (HasNoMemory status s ⊎ ((status ≡ 2) × GotLine s (resume_line fault)))
TellsEnd wanted plan NoMemory status t s = (t ≡ no_trace) × HasNoMemory status s
